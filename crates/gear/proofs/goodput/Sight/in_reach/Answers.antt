use Rattle.std.proofs.Common.{refl}
use lib.Ieee.{of_int, of_bits}
use Rattle.gear.specs.Levels.{sight_reach}
use Rattle.gear.proofs.goodput.Sight.in_reach.Goals as goal

pub returns : goal.returns
unfolding sight_reach of_int of_bits
returns c = refl
