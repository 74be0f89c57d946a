use mathlib.Core.Path.{refl}
use Rattle.laws.specs.Tests.{all}
use Rattle.ieee.specs.Range.{inside}
use lib.Ieee.{of_int, of_bits}
use Rattle.soundness.proofs.fields.level_ok.Goals as goal

pub returns : goal.returns
unfolding all inside of_int of_bits
returns c = refl
