-- `link_words`: word by word, as a finished link has them. Assumes nothing.
use Rattle.call_lines.specs.CallLines.{log_line_read}
use Rattle.call_lines.proofs.link_words.Goals as goal

pub returns : goal.returns
unfolding log_line_read
returns c =
    let p5 = c in
    let p4 = p5 in
    let p3 = p4 in
    let p2 = p3 in
    let p1 = p2 in record {
      value = rw (p5.done.ensures, p4.whole-acked.ensures, p3.whole-end.ensures, p2.whole-start.ensures, p1.hex-call.ensures.value);
      bytes_after = p1.hex-call.ensures.bytes_after;
    }
