use Rattle.std.proofs.Common.{refl}
use lib.Ieee.{of_int, of_bits}
use Rattle.levels.proofs.losses.loss.Goals as goal

pub returns : goal.returns
unfolding of_int of_bits
returns c = refl
