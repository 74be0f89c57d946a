use mathlib.Core.Path.{refl}
use lib.Ieee.{of_bits, div, of_int}
use Rattle.record.proofs.fresh_link.Goals as goal

pub returns : goal.returns
unfolding of_bits div of_int
returns c = refl
