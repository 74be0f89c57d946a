use mathlib.Core.Path.{refl}
use lib.Ieee.{of_bits, div, of_int, neg}
use Rattle.record.proofs.fresh_gear.Goals as goal

pub returns : goal.returns
unfolding of_bits div of_int neg
returns c = refl
