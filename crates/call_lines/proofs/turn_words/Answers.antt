-- `turn_words`: word by word, as a turn has them. Assumes nothing.
use Rattle.call_lines.specs.CallLines.{turn_line}
use Rattle.call_lines.proofs.turn_words.Goals as goal

pub returns : goal.returns
unfolding turn_line
returns c =
    let p5 = c in
    let p4 = p5 in
    let p3 = p4 in
    let p2 = p3 in
    let p1 = p2 in
    rw (c.done-2.ensures, p5.done.ensures, p4.single_of.ensures, p3.single-db.ensures, p2.none-no_db.ensures, p1.heard_first-h.ensures)
