-- `reception_words`: word by word, as a reception has them. Assumes nothing.
use Rattle.box_lines.specs.BoxLines.{reception_line}
use Rattle.box_lines.proofs.reception_words.Goals as goal

pub returns : goal.returns
unfolding reception_line
returns c =
    let p3 = c in
    let p2 = p3 in
    rw (c.done.ensures, p3.u8_of.ensures, p2.whole-db.ensures, p2.whole-number.ensures)
