-- `log_text`: by the refusal; so much of the output as there is. Assumes nothing.
use mathlib.Core.Path.{refl, ap}
use mathlib.Core.List.{List}
use Prim.Native.Nat.{ℕ}
use borrow.Author.Tests.{eq-eqb, ne_eqb}
use Rattle.laws.proofs.Picks.{cond_yes, cond_no}
use Rattle.text.proofs.Laws.{appends, told}
use Rattle.transcript.specs.Answers.{log_line}
use Rattle.look_lines.specs.Looks.{log_text}
use Rattle.look_lines.proofs.log_text.Goals as goal

pub returns-then-refusal-eq0 : goal.returns-then-refusal-eq0
unfolding log_text
returns-then-refusal-eq0 c = told (appends c.log.ensures) (cond_yes _ _ _ _ (eq-eqb _ _ c.if-refusal-eq0.true)
    (ap (λ (w : List ℕ). log_line w) c.least-len.ensures.a_value))

pub returns : goal.returns
unfolding log_text
returns c = told (appends c.answer.ensures) (cond_no _ _ _ _ (ne_eqb _ _ c.if-refusal-eq0.false) refl)
