-- `short_words`: word by word, as a short ack has them. Assumes nothing.
use Rattle.call_lines.specs.CallLines.{short_line}
use Rattle.call_lines.proofs.short_words.Goals as goal

pub returns : goal.returns
unfolding short_line
returns c =
    let p4 = c in
    let p3 = p4 in
    let p2 = p3 in
    let p1 = p2 in
    rw (c.done.ensures, p4.class_words-k.ensures, p3.wish_words-w.ensures, p2.burst_words-b.ensures, p1.heard_first-h.ensures)
