-- `adif::put_moment` meets its contract. Assumes nothing.
use mathlib.Core.Path.{ap}
use native.Mathlib.Omega.{arith}
use lib.ListN.{length}
use Rattle.adif.proofs.Steps.{moment-made, length-written, length-date, length-time}
use Rattle.adif.proofs.put_moment.Goals as goal

pub put_field-requires : goal.put_field-requires
put_field-requires c = let h = c in
    let p = h in
    let d = p in
    let s = d in
    omega (
      arith,
      p.put_field-next.ensures.1,
      length-written s.args.dated.now d.date_text-d.result,
      ap length d.date_text-d.ensures,
      length-date s.args.t,
      ap length h.time_text-h.ensures,
      length-time s.args.t,
    )

pub returns : goal.returns
returns c = let q = c in
    let h = q in
    let p = h in
    let d = p in
    moment-made _ _ _ _ _ _ _ _ _ _ _ d.date_text-d.ensures h.time_text-h.ensures p.put_field-next.ensures q.put_field.ensures
