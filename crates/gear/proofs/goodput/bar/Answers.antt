use Rattle.std.proofs.Common.{ne_eqb}
use Rattle.gear.specs.Goodput.{bar_of}
use lib.Ieee.{of_int, of_bits}
use Rattle.laws.proofs.Picks.{picks}
use Rattle.gear.proofs.goodput.bar.Goals as goal

pub returns-then-l-at : goal.returns-then-l-at
unfolding bar_of of_int of_bits
returns-then-l-at c = search picks

pub returns-then-long_frame : goal.returns-then-long_frame
unfolding bar_of
returns-then-long_frame c = simp (ne_eqb _ _ c.if-l-at.false, rw (c.long_frame-else-l-at.ensures, c.long_frame.ensures) at c.if-long_frame.true)

pub returns-else-long_frame : goal.returns-else-long_frame
unfolding bar_of
returns-else-long_frame c = simp (ne_eqb _ _ c.if-l-at.false, rw (c.long_frame-else-l-at.ensures, c.long_frame.ensures) at c.if-long_frame.false)
