use Rattle.laws.proofs.Picks.{picks}
use Rattle.harq.specs.HeldCode.{nearer}
use Rattle.harq.proofs.nearer.Goals as goal

pub returns-then-h-e : goal.returns-then-h-e
unfolding nearer
returns-then-h-e c = search picks

pub returns : goal.returns
unfolding nearer
returns c = search picks
