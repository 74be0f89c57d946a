-- `calendar::leap` meets its contract. Assumes nothing.
use borrow.Author.Tests.{eq-eqb, ne_eqb}
use Rattle.calendar.proofs.leap.Goals as goal

pub returns-then-y-ne0 : goal.returns-then-y-ne0
returns-then-y-ne0 c = simp (ne_eqb _ _ c.if-y-ne0.true)

pub returns-then-y-ne0-2 : goal.returns-then-y-ne0-2
returns-then-y-ne0-2 c = simp (eq-eqb _ _ c.if-y-ne0.false, ne_eqb _ _ c.if-y-ne0-2.true)

pub returns : goal.returns
returns c = simp (eq-eqb _ _ c.if-y-ne0.false, eq-eqb _ _ c.if-y-ne0-2.false)
