-- `names::asking`: name by name. Assumes nothing.
use Rattle.call_lines.specs.Names.{asking}
use Rattle.call_lines.proofs.names.asking.Goals as goal

pub returns : goal.returns
unfolding asking
returns c =
    let p6 = c in
    let p5 = p6 in
    let p4 = p5 in
    let p3 = p4 in
    let p2 = p3 in
    let p1 = p2 in
    rw (c.or.ensures, p6.or-n-5.ensures, p5.or-n-4.ensures, p4.or-n-3.ensures, p3.or-n-2.ensures, p2.or-n.ensures, p1.no_name-n.ensures)
