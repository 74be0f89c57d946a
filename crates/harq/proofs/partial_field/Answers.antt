use borrow.Author.Tests.{ne_eqb}
use Rattle.laws.proofs.Picks.{picks, cond_no}
use Rattle.harq.specs.Held.{partial_field}
use native.Mathlib.Omega.{arith}
use Rattle.harq.proofs.partial_field.Goals as goal

pub returns-then-parity-stored : goal.returns-then-parity-stored
unfolding partial_field
returns-then-parity-stored c = search picks

pub returns-then-parity-lt-PARTIAL_MAX : goal.returns-then-parity-lt-PARTIAL_MAX
unfolding partial_field
returns-then-parity-lt-PARTIAL_MAX c = cond_no _ _ _ _ (ne_eqb _ _ c.if-parity-stored.false) (omega arith)

pub returns : goal.returns
unfolding partial_field
returns c = cond_no _ _ _ _ (ne_eqb _ _ c.if-parity-stored.false) (omega arith)
