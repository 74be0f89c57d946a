-- `boxed`: what its three calls leave. Assumes nothing.
use Rattle.line_steps.proofs.Laws.{boxed-by}
use Rattle.line_steps.proofs.boxed.Goals as goal

pub returns : goal.returns
returns c =
    let d = c in
    let e = d in
    let f = e in
    boxed-by _ _ _ _ _ _ _ _ _ _ f.box_now-b.ensures e.looked_at.ensures d.box_or_not.ensures
