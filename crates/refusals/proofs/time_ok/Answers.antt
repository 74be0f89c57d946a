-- `refusals::time_ok` meets its contract.
use mathlib.Core.Path.{refl}
use lib.Ieee.{of_int, of_bits}
use Rattle.refusals.specs.Refusals.{time_ok}
use Rattle.ieee.specs.Range.{inside}
use Rattle.refusals.proofs.time_ok.Goals as goal

pub returns : goal.returns
unfolding inside time_ok of_int of_bits
returns c = refl
