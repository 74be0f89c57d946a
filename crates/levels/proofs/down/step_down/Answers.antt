use Rattle.levels.specs.Usable.{step_down}
use Rattle.laws.proofs.Picks.{told-yes, told-no}
use Rattle.levels.proofs.down.step_down.Goals as goal

pub returns-then-long_frame : goal.returns-then-long_frame
unfolding step_down
returns-then-long_frame c = simp (told-yes _ _ c.long_frame.ensures c.if-long_frame.true, c.max.ensures, c.lowest_long.ensures, c.nth_below-to.ensures)

pub returns-else-long_frame : goal.returns-else-long_frame
unfolding step_down
returns-else-long_frame c = simp (told-no _ _ c.long_frame.ensures c.if-long_frame.false, c.nth_below-to.ensures)
