-- `load`: by whether its line is right, and by what reading its file refuses. The file is what the line has of bytes. Assumes nothing.
use borrow.Author.Tests.{eq-eqb, ne_eqb, not-false, not-true}
use Rattle.run_lines.specs.RunLines.{loads}
use Rattle.run_lines.proofs.Laws.{refused-by}
use Rattle.run_lines.proofs.load.Goals as goal

pub load_words-q-requires : goal.load_words-q-requires
load_words-q-requires c = tt

pub failed-requires : goal.failed-requires
failed-requires c = tt

pub returns-then-not-q : goal.returns-then-not-q
unfolding loads
returns-then-not-q c =
    let d = c in
    let w = d.load_words-q in
    rw (← w.ensures.value, not-true w.result.ok c.if-not-q.true, c.failed.ensures)

pub answer-requires : goal.answer-requires
answer-requires c = tt

pub with_text-requires : goal.with_text-requires
with_text-requires c = tt

pub returns-then-q-ne0 : goal.returns-then-q-ne0
unfolding loads
returns-then-q-ne0 c =
    let d = c in
    let e = d in
    let f = e in
    let g = f in
    let w = g.load_words-q in
    rw (
      ← w.ensures.value,
      not-false w.result.ok f.if-not-q.false,
      ne_eqb w.result.refusal 0 e.if-q-ne0.true,
      c.with_text.ensures,
    ) (refused-by _ d.answer.ensures)

pub least-n-requires : goal.least-n-requires
least-n-requires c = tt

pub take_file-requires : goal.take_file-requires
take_file-requires c = tt

pub returns : goal.returns
unfolding loads
returns c =
    let d = c in
    let e = d in
    let f = e in
    let g = f in
    let h = g in
    let w = h.load_words-q in
    rw (
      ← w.ensures.value,
      ← w.ensures.bytes_after,
      ← e.least-n.ensures.a_value,
      not-false w.result.ok g.if-not-q.false,
      eq-eqb w.result.refusal 0 f.if-q-ne0.false,
    ) d.take_file.ensures
