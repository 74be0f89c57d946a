-- `listened`: what the box left. Assumes nothing.
use Rattle.line_steps.specs.LineSteps.{listened_step}
use Rattle.line_steps.proofs.Laws.{listened-by}
use Rattle.line_steps.proofs.listened.Goals as goal

pub returns : goal.returns
unfolding listened_step
returns c =
    let d = c in
    let a = d.args in
    listened-by a.run d.listen-q.ensures c.left-run.ensures
