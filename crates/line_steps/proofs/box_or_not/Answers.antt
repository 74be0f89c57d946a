-- `box_or_not`: by whether the line is the box's. Assumes nothing.
use mathlib.Core.Path.{refl}
use Rattle.laws.proofs.Picks.{cond_yes, cond_no, told-yes, told-no}
use Rattle.line_steps.specs.LineSteps.{box_or_not}
use Rattle.line_steps.proofs.box_or_not.Goals as goal

pub returns-then-not-is_box : goal.returns-then-not-is_box
unfolding box_or_not
returns-then-not-is_box c =
    let d = c.is_box in
    cond_no _ _ _ _ (told-no _ _ d.ensures c.if-not-is_box.true) refl

pub returns : goal.returns
unfolding box_or_not
returns c =
    let d = c in
    let e = d in
    let f = e.is_box in
    cond_yes _ _ _ _ (told-yes _ _ f.ensures e.if-not-is_box.false) d.box_asked.ensures
