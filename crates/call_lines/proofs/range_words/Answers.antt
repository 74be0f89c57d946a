-- `range_words`: word by word, as a range of reports has them. Assumes nothing.
use Rattle.call_lines.specs.CallLines.{range_line}
use Rattle.call_lines.proofs.range_words.Goals as goal

pub returns : goal.returns
unfolding range_line
returns c =
    let p2 = c in
    rw (c.done.ensures, c.u8_of.ensures, p2.whole-high.ensures, p2.class_words-k.ensures)
