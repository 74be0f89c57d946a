-- `names::call_of`: name by name. Assumes nothing.
use Rattle.call_lines.specs.Names.{call_of}
use Rattle.call_lines.proofs.names.call_of.Goals as goal

pub returns : goal.returns
unfolding call_of
returns c =
    let p9 = c in
    let p8 = p9 in
    let p7 = p8 in
    let p6 = p7 in
    let p5 = p6 in
    let p4 = p5 in
    let p3 = p4 in
    let p2 = p3 in
    let p1 = p2 in
    rw (
      c.or.ensures,
      p9.or-n-8.ensures,
      p8.or-n-7.ensures,
      p7.or-n-6.ensures,
      p6.or-n-5.ensures,
      p5.or-n-4.ensures,
      p4.or-n-3.ensures,
      p3.or-n-2.ensures,
      p2.or-n.ensures,
      p1.asking-n.ensures,
    )
