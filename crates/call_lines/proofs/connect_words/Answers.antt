-- `connect_words`: word by word, as a connect answer has them. Assumes nothing.
use Rattle.call_lines.specs.CallLines.{connect_line}
use Rattle.call_lines.proofs.connect_words.Goals as goal

pub returns : goal.returns
unfolding connect_line
returns c =
    let p6 = c in
    let p5 = p6 in
    let p4 = p5 in
    let p3 = p4 in
    let p2 = p3 in
    let p1 = p2 in
    rw (
      c.done.ensures,
      p6.single_of.ensures,
      p5.flag-cue.ensures,
      p4.class_words-k.ensures,
      p3.single-db.ensures,
      p2.whole-session.ensures,
      p1.heard_first-h.ensures,
    )
