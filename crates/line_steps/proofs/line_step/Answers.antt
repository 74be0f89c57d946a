-- `line_step`: what its two calls leave. Assumes nothing.
use Rattle.line_steps.proofs.Laws.{line-by}
use Rattle.line_steps.proofs.line_step.Goals as goal

pub returns : goal.returns
returns c =
    let d = c in
    let e = d in
    let f = e in
    line-by _ _ _ _ _ _ _ _ _ _ _ _ _ f.boxed-x.ensures d.quiet-run.ensures
