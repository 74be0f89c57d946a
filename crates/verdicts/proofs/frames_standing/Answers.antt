-- `verdicts::frames_standing` meets its contract.
use mathlib.Core.Path.{refl, sym, ◌∙◌}
use borrow.Author.Tests.{lt-ltb, le-ltb}
use Rattle.laws.proofs.Picks.{cond_yes, cond_no}
use Rattle.verdicts.specs.Verdicts.{frames_standing}
use Rattle.verdicts.proofs.frames_standing.Goals as goal

pub returns-then-is_early : goal.returns-then-is_early
unfolding frames_standing
returns-then-is_early c = cond_yes _ _ _ _ (sym c.is_early.ensures ∙ c.if-is_early.true) refl

pub returns-then-n-gt-MAX_RECEIVED : goal.returns-then-n-gt-MAX_RECEIVED
unfolding frames_standing
returns-then-n-gt-MAX_RECEIVED c =
    cond_no _ _ _ _ (sym c.is_early.ensures ∙ c.if-is_early.false) (cond_yes _ _ _ _ (lt-ltb _ _ c.if-n-gt-MAX_RECEIVED.true) refl)

pub returns : goal.returns
unfolding frames_standing
returns c =
    cond_no _ _ _ _ (sym c.is_early.ensures ∙ c.if-is_early.false) (cond_no _ _ _ _ (le-ltb _ _ c.if-n-gt-MAX_RECEIVED.false) refl)
