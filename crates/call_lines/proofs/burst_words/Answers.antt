-- `burst_words`: word by word, as the burst has them. Assumes nothing.
use Rattle.call_lines.specs.CallLines.{burst_words}
use Rattle.call_lines.proofs.burst_words.Goals as goal

pub returns : goal.returns
unfolding burst_words
returns c =
    let p5 = c in
    let p4 = p5 in
    let p3 = p4 in
    let p2 = p3 in
    let p1 = p2 in
    rw (c.single_of.ensures, p5.u8_of-2.ensures, p4.u8_of.ensures, p3.single-db.ensures, p2.whole-bitmap.ensures, p1.whole-burst.ensures)
