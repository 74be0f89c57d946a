-- `levels`: by whether its line is right. Assumes nothing.
use borrow.Author.Tests.{not-true, not-false}
use Rattle.look_lines.specs.Looks.{levels_shown}
use Rattle.look_lines.proofs.Laws.{said}
use Rattle.look_lines.proofs.levels.Goals as goal

pub returns-then-not-q : goal.returns-then-not-q
unfolding levels_shown
returns-then-not-q c =
    let w = c.range_words-q in
    rw (← w.ensures, not-true w.result.ok c.if-not-q.true, c.wrong.ensures)

pub returns : goal.returns
unfolding levels_shown
returns c =
    let d = c in
    let w = d.range_words-q in
    rw (← w.ensures, not-false w.result.ok d.if-not-q.false, ← c.levels_under-found.ensures) (said c.levels_text-text.ensures)
