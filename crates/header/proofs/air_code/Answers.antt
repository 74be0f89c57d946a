use Rattle.laws.proofs.Picks.{picks}
use Rattle.header.specs.Header.{air_code}
use Prim.Native.Nat.{◌-◌}
use Rattle.header.proofs.air_code.Goals as goal

pub returns-then-l-lt5 : goal.returns-then-l-lt5
unfolding air_code
returns-then-l-lt5 c = search picks

pub returns : goal.returns
unfolding air_code
returns c = search picks
