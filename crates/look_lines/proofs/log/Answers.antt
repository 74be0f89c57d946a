-- `log`: by whether its line is right; its call sign is what the line has. Assumes nothing.
use borrow.Author.Tests.{not-true, not-false}
use Rattle.look_lines.specs.Looks.{log_shown}
use Rattle.look_lines.proofs.Laws.{log-said}
use Rattle.look_lines.proofs.log.Goals as goal

pub returns-then-not-q : goal.returns-then-not-q
unfolding log_shown
returns-then-not-q c =
    let w = c.link_words-q in
    rw (← w.ensures.value, not-true w.result.ok c.if-not-q.true, c.wrong.ensures)

pub returns : goal.returns
unfolding log_shown
returns c =
    let d = c in
    let e = d in
    let w = e.link_words-q in
    rw (
      ← w.ensures.value,
      ← w.ensures.bytes_after,
      ← e.least-k.ensures.a_value,
      not-false w.result.ok e.if-not-q.false,
    ) (log-said _ d.log_link-logged.ensures c.log_text-text.ensures)
