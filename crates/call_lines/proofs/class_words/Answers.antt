-- `class_words`: word by word, as the class and the slot has them. Assumes nothing.
use Rattle.call_lines.specs.CallLines.{class_words}
use Rattle.call_lines.proofs.class_words.Goals as goal

pub returns : goal.returns
unfolding class_words
returns c =
    let p3 = c in
    let p2 = p3 in
    let p1 = p2 in
    rw (c.u8_of.ensures, p3.whole-slot.ensures, p2.flag-doppler.ensures, p1.flag-echo.ensures)
