use Rattle.plan.specs.PlanningCode.{fits_with}
use mathlib.Core.Path.{refl}
use native.Mathlib.Omega.{arith}
use native.Mathlib.Nat.{mul-le-mul}
use Rattle.plan.proofs.fits_with.Goals as goal

pub overflow_mul-t : goal.overflow_mul-t
overflow_mul-t c = let s = c in omega (arith, mul-le-mul s.requires.2 s.requires.0)

pub overflow_add-t : goal.overflow_add-t
overflow_add-t c = let s = c in omega (arith, s.requires.1, mul-le-mul s.requires.2 s.requires.0)

pub returns : goal.returns
unfolding fits_with
returns c = rw c.fits.ensures refl
