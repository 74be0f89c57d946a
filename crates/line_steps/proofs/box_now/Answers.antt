-- `box_now`: what its two calls leave. Assumes nothing.
use Rattle.line_steps.proofs.Laws.{before-by}
use Rattle.line_steps.proofs.box_now.Goals as goal

pub returns : goal.returns
returns c = before-by _ _ _ _ _ _ c.noted-b.ensures c.standing.ensures
