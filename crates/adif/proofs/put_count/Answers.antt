-- `adif::put_count` meets its contract. Assumes nothing.
use native.Mathlib.Omega.{arith}
use lib.ListN.{length-take}
use Rattle.adif.proofs.Steps.{count-made, decimal-most}
use Rattle.adif.proofs.put_count.Goals as goal

pub slice_bounds-text-end : goal.slice_bounds-text-end
slice_bounds-text-end c = let p = c in
    omega (arith, decimal-most p.args.n)

pub slice_bounds-put_field-end : goal.slice_bounds-put_field-end
slice_bounds-put_field-end c = let p = c in
    simp length-take (omega (arith, decimal-most p.args.n))

pub put_field-requires : goal.put_field-requires
put_field-requires c = let p = c in
    simp length-take (omega (arith, decimal-most p.args.n))

pub returns : goal.returns
returns c = let q = c in
    let p = q in
    count-made _ _ _ _ _ _ _ _ _ p.put_decimal-k.ensures (omega arith) q.put_field.ensures
