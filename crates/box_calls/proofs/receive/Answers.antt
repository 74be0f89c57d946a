-- `receive`: by whether its line is right. Assumes nothing.
use borrow.Author.Tests.{not-true, not-false}
use Rattle.box_calls.specs.BoxCalls.{receive_said}
use Rattle.box_calls.proofs.receive.Goals as goal

pub returns-then-not-q : goal.returns-then-not-q
unfolding receive_said
returns-then-not-q c =
    let q = c.reception_words-q in
    rw (← q.ensures, not-true q.result.ok c.if-not-q.true, c.wrong.ensures)

pub returns : goal.returns
unfolding receive_said
returns c =
    let q = c.reception_words-q in
    rw (
      ← q.ensures,
      not-false q.result.ok c.if-not-q.false,
      ← c.least-used.ensures.a_value,
      ← c.least-k.ensures.a_value,
    ) c.taken.ensures
