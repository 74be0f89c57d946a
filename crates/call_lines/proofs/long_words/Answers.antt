-- `long_words`: word by word, as a long ack has them. Assumes nothing.
use Rattle.call_lines.specs.CallLines.{long_line}
use Rattle.call_lines.proofs.long_words.Goals as goal

pub returns : goal.returns
unfolding long_line
returns c =
    let p3 = c in
    let p2 = p3 in
    let p1 = p2 in record {
      value = rw (c.done.ensures, p3.hex-payload.ensures.value, p2.wish_words-w.ensures, p1.heard_first-h.ensures);
      bytes_after = rw (p3.hex-payload.ensures.bytes_after, p2.wish_words-w.ensures, p1.heard_first-h.ensures);
    }
