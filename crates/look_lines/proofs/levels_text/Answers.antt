-- `levels_text`: by the refusal. Assumes nothing.
use mathlib.Core.Path.{refl}
use borrow.Author.Tests.{eq-eqb, ne_eqb}
use Rattle.laws.proofs.Picks.{cond_yes, cond_no}
use Rattle.text.proofs.Laws.{appends, told}
use Rattle.look_lines.specs.Looks.{levels_text}
use Rattle.look_lines.proofs.levels_text.Goals as goal

pub returns-then-refusal-eq0 : goal.returns-then-refusal-eq0
unfolding levels_text
returns-then-refusal-eq0 c = told (appends c.levels.ensures) (cond_yes _ _ _ _ (eq-eqb _ _ c.if-refusal-eq0.true) refl)

pub returns : goal.returns
unfolding levels_text
returns c = told (appends c.answer.ensures) (cond_no _ _ _ _ (ne_eqb _ _ c.if-refusal-eq0.false) refl)
