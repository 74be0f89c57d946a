-- `piece_text`: by the refusal, and by whether a piece is there. Assumes nothing.
use mathlib.Core.Path.{refl}
use borrow.Author.Tests.{eq-eqb, ne_eqb}
use Rattle.laws.proofs.Picks.{cond_yes, cond_no}
use Rattle.text.proofs.Laws.{appends, told}
use Rattle.list_calls.specs.Answers.{piece_answer}
use Rattle.list_calls.proofs.answers.piece_text.Goals as goal

pub returns-then-refusal-ne0 : goal.returns-then-refusal-ne0
unfolding piece_answer
returns-then-refusal-ne0 c =
    told (appends c.answer.ensures)
    (cond_no _ _ _ _ (ne_eqb _ _ c.if-refusal-ne0.true) refl)

pub returns-then-found-at : goal.returns-then-found-at
unfolding piece_answer
returns-then-found-at c =
    told (appends c.piece.ensures)
    (cond_yes _ _ _ _ (eq-eqb _ _ c.if-refusal-ne0.false)
    (cond_yes _ _ _ _ c.if-found-at.true refl))

pub returns : goal.returns
unfolding piece_answer
returns c =
    told (appends c.no_piece.ensures)
    (cond_yes _ _ _ _ (eq-eqb _ _ c.if-refusal-ne0.false)
    (cond_no _ _ _ _ c.if-found-at.false refl))
