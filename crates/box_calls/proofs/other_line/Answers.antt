-- `other_line`: by the line's first word. Assumes nothing.
use Rattle.laws.proofs.Picks.{cond_yes, cond_no}
use Rattle.box_calls.specs.BoxCalls.{other_said}
use Rattle.box_calls.proofs.Laws.{kept}
use Rattle.box_calls.proofs.other_line.Goals as goal

pub returns-then-lends : goal.returns-then-lends
unfolding other_said
returns-then-lends c =
    rw (← c.word-lends.ensures) (cond_yes _ _ _ _ c.if-lends.true (kept c.lend.ensures))

pub returns-then-shows : goal.returns-then-shows
unfolding other_said
returns-then-shows c =
    rw (← c.word-lends.ensures, ← c.word-shows.ensures)
    (cond_no _ _ _ _ c.if-lends.false (cond_yes _ _ _ _ c.if-shows.true (kept c.show.ensures)))

pub returns : goal.returns
unfolding other_said
returns c =
    rw (← c.word-lends.ensures, ← c.word-shows.ensures)
    (cond_no _ _ _ _ c.if-lends.false (cond_no _ _ _ _ c.if-shows.false c.receptions.ensures))
