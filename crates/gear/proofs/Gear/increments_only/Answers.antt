use Rattle.std.proofs.Common.{eq-eqb, ne_eqb}
use Rattle.gear.specs.Judging.{increments_only}
use Rattle.gear.proofs.Gear.increments_only.Goals as goal

pub returns-then-l-at : goal.returns-then-l-at
unfolding increments_only
returns-then-l-at c = simp (rw c.capped-l.ensures at (eq-eqb _ _ c.if-l-at.true), c.capped-l.ensures)

pub returns : goal.returns
unfolding increments_only
returns c = simp (rw c.capped-l.ensures at (ne_eqb _ _ c.if-l-at.false), c.capped-l.ensures)
