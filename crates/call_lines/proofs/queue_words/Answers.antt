-- `queue_words`: word by word, as a queuing has them. Assumes nothing.
use Rattle.call_lines.specs.CallLines.{queue_line}
use Rattle.call_lines.proofs.queue_words.Goals as goal

pub returns : goal.returns
unfolding queue_line
returns c =
    let p7 = c in
    let p6 = p7 in
    let p5 = p6 in
    let p4 = p5 in
    let p3 = p4 in
    let p2 = p3 in
    let p1 = p2 in record {
      value = rw (
        c.done-2.ensures,
        p7.label_of.ensures,
        p6.class_of.ensures,
        p5.done.ensures,
        p4.done-labelled.ensures,
        p3.whole-label.ensures,
        p2.whole-class.ensures,
        p1.hex-text.ensures.value,
      );
      bytes_after = p1.hex-text.ensures.bytes_after;
    }
