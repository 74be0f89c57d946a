use mathlib.Core.Path.{refl}
use Rattle.plan.specs.PlanningCode.{too_big_for}
use Rattle.plan.proofs.Choice.too_big.Goals as goal

pub returns : goal.returns
unfolding too_big_for
returns c = rw (c.cap.ensures.0, c.fits.ensures) refl
