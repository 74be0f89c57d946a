-- `heard_first`: word by word, as T, W and HERE has them. Assumes nothing.
use Rattle.call_lines.specs.CallLines.{heard_first}
use Rattle.call_lines.proofs.heard_first.Goals as goal

pub returns : goal.returns
unfolding heard_first
returns c =
    let p5 = c in
    let p4 = p5 in
    let p3 = p4 in
    let p2 = p3 in
    let p1 = p2 in
    rw (c.single_of.ensures, p5.u8_of.ensures, p4.of_bits.ensures, p3.single-here.ensures, p2.whole-wave.ensures, p1.double-time.ensures)
