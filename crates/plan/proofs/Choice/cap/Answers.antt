use mathlib.Core.Path.{refl}
use native.Mathlib.Omega.{arith}
use Rattle.plan.proofs.Choice.cap.Goals as goal

pub returns-then-self : goal.returns-then-self
returns-then-self c = (rw c.if-self.true refl, omega arith)

pub returns : goal.returns
returns c = (rw c.if-self.false refl, omega arith)
