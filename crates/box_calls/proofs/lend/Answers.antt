-- `lend`: by whether its line is right and names no more places than there are. Assumes nothing.
use Rattle.box_calls.specs.BoxCalls.{window_said}
use Rattle.box_calls.proofs.Laws.{too_wide, not_wide, said}
use Rattle.box_calls.proofs.lend.Goals as goal

pub returns-then-done-q : goal.returns-then-done-q
unfolding window_said
returns-then-done-q c =
    let q = c.whole-q in
    let d = c.done in
    rw (← q.ensures, ← d.ensures, too_wide d.result q.result.value 65536 c.if-done-q.true, c.wrong.ensures)

pub returns : goal.returns
unfolding window_said
returns c =
    let q = c.whole-q in
    let d = c.done in
    rw (← q.ensures, ← d.ensures, not_wide d.result q.result.value 65536 c.if-done-q.false) (said c.answer-text.ensures)
