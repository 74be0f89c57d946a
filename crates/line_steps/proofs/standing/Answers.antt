-- `standing`: by whether a fresh one starts. Assumes nothing.
use mathlib.Core.Path.{refl}
use Rattle.laws.proofs.Picks.{cond_yes, cond_no}
use Rattle.run_lines.proofs.Laws.{pair}
use Rattle.line_steps.specs.LineSteps.{box_standing}
use Rattle.line_steps.proofs.standing.Goals as goal

pub returns-then-anew : goal.returns-then-anew
unfolding box_standing
returns-then-anew c =
    let d = c in
    cond_yes _ _ _ _ d.if-anew.true (pair c.fresh.ensures d.clear.ensures)

pub returns : goal.returns
unfolding box_standing
returns c = cond_no _ _ _ _ c.if-anew.false refl
