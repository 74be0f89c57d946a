-- `burst_text`: by the refusal. Assumes nothing.
use mathlib.Core.Path.{refl}
use borrow.Author.Tests.{eq-eqb, ne_eqb}
use Rattle.laws.proofs.Picks.{cond_yes, cond_no}
use Rattle.text.proofs.Laws.{appends, told}
use Rattle.list_calls.specs.Answers.{burst_text}
use Rattle.list_calls.proofs.answers.burst_text.Goals as goal

pub returns-then-refusal-eq0 : goal.returns-then-refusal-eq0
unfolding burst_text
returns-then-refusal-eq0 c = told (appends c.burst.ensures) (cond_yes _ _ _ _
    (eq-eqb _ _ c.if-refusal-eq0.true) refl)

pub returns : goal.returns
unfolding burst_text
returns c = told (appends c.answer.ensures) (cond_no _ _ _ _
    (ne_eqb _ _ c.if-refusal-eq0.false) refl)
