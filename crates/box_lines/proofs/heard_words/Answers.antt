-- `heard_words`: word by word, as a frame heard has them. Assumes nothing.
use Rattle.box_lines.specs.BoxLines.{heard_line}
use Rattle.box_lines.proofs.heard_words.Goals as goal

pub returns : goal.returns
unfolding heard_line
returns c =
    let p3 = c in
    let p2 = p3 in
    let p1 = p2 in record {
      value = rw (c.done.ensures, p3.u8_of.ensures, p2.hex-frame.ensures.value, p1.whole-slot.ensures);
      bytes_after = rw (← p1.whole-slot.ensures) p2.hex-frame.ensures.bytes_after;
    }
