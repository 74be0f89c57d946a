use Rattle.laws.proofs.Picks.{picks}
use Rattle.harq.specs.Held.{start_of}
use Rattle.harq.proofs.Harq.start.Goals as goal

pub returns : goal.returns
unfolding start_of
returns c = search picks
