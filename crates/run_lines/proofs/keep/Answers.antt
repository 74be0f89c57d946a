-- `keep`: what there is no room for is left out. Assumes nothing.
use native.Mathlib.Omega.{arith}
use Rattle.run_lines.proofs.Laws.{cut_fits, over-cut}
use Rattle.run_lines.proofs.keep.Goals as goal

pub copy_in-requires : goal.copy_in-requires
copy_in-requires c =
    let d = c in
    let s = d in
    rw c.least-n.ensures.a_value (omega (arith, cut_fits s.args.file.now s.args.bytes.now))

pub returns : goal.returns
returns c =
    let d = c in
    rw (← over-cut, ← d.least-n.ensures.a_value) c.copy_in.ensures
