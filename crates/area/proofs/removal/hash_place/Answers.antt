-- `area::removal::hash_place` meets its contract.
use Rattle.area.specs.Removal.{hash_place}
use mathlib.Core.Path.{refl}
use native.Mathlib.Omega.{arith}
use Rattle.area.proofs.removal.hash_place.Goals as goal

pub returns : goal.returns
unfolding hash_place
returns c = (refl, omega arith)
