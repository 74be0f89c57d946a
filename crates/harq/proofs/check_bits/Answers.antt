use Rattle.laws.proofs.Picks.{picks}
use Rattle.harq.specs.Held.{check_bits}
use Rattle.harq.proofs.check_bits.Goals as goal

pub returns-then-n-eq0 : goal.returns-then-n-eq0
unfolding check_bits
returns-then-n-eq0 c = search picks

pub returns : goal.returns
unfolding check_bits
returns c = search picks
