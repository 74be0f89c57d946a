-- `verdicts::frames_verdict` meets its contract.
use mathlib.Core.Bool.{not}
use mathlib.Core.Path.{refl, sym, ap, ◌∙◌}
use Rattle.laws.proofs.Picks.{cond_yes, cond_no}
use Rattle.verdicts.specs.Verdicts.{hearing_verdict}
use Rattle.verdicts.proofs.Passed.{is-passed}
use Rattle.verdicts.proofs.frames_verdict.Goals as goal

pub returns-then-not-time_ok : goal.returns-then-not-time_ok
unfolding hearing_verdict
returns-then-not-time_ok c =
    cond_yes _ _ _ _ (is-passed _ _ _ c.frames_standing.ensures c.in_ok-frames_standing.was)
    (cond_yes _ _ _ _ (sym (ap not c.time_ok.ensures) ∙ ap not c.if-not-time_ok.true) refl)

pub returns-then-not-heard_ok : goal.returns-then-not-heard_ok
unfolding hearing_verdict
returns-then-not-heard_ok c =
    cond_yes _ _ _ _ (is-passed _ _ _ c.frames_standing.ensures c.in_ok-frames_standing.was)
    (cond_no _ _ _ _ (sym (ap not c.time_ok.ensures) ∙ ap not c.if-not-time_ok.false)
    (cond_yes _ _ _ _ (sym (ap not c.heard_ok.ensures) ∙ ap not c.if-not-heard_ok.true) refl))

pub returns : goal.returns
unfolding hearing_verdict
returns c =
    cond_yes _ _ _ _ (is-passed _ _ _ c.frames_standing.ensures c.in_ok-frames_standing.was)
    (cond_no _ _ _ _ (sym (ap not c.time_ok.ensures) ∙ ap not c.if-not-time_ok.false)
    (cond_no _ _ _ _ (sym (ap not c.heard_ok.ensures) ∙ ap not c.if-not-heard_ok.false) refl))
