-- `settle::outcome::clear_burst` meets its contract.
use mathlib.Core.Path.{refl}
use Rattle.settle.proofs.outcome.clear_burst.Goals as goal

pub returns : goal.returns
returns c = refl
