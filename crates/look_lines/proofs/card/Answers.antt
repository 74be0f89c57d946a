-- `card`: by whether its line is right. Assumes nothing.
use Rattle.laws.proofs.Picks.{told-yes, told-no}
use Rattle.look_lines.specs.Looks.{card_shown}
use Rattle.look_lines.proofs.Laws.{card-said}
use Rattle.look_lines.proofs.card.Goals as goal

pub returns-then-not-done : goal.returns-then-not-done
unfolding card_shown
returns-then-not-done c = rw (told-no _ _ c.done.ensures c.if-not-done.true, c.wrong.ensures)

pub returns : goal.returns
unfolding card_shown
returns c =
    let d = c in
    rw (told-yes _ _ d.done.ensures d.if-not-done.false)
    (card-said _ d.write-refusal.ensures c.card_text-text.ensures)
