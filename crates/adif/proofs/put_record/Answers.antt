-- `adif::put_record` meets its contract. Assumes nothing.
use native.Mathlib.Omega.{arith}
use Rattle.adif.proofs.Steps.{call-most, on-most, off-most, acked-most, record-made}
use Rattle.adif.proofs.put_record.Goals as goal

pub put_moment-b-requires : goal.put_moment-b-requires
put_moment-b-requires c = let s = c in
    omega (arith, call-most s.args.call.now s.requires.0)

pub put_moment-c-requires : goal.put_moment-c-requires
put_moment-c-requires c = let r = c in
    let s = r in
    omega (arith, call-most s.args.call.now s.requires.0, on-most s.args.on)

pub put_count-d-requires : goal.put_count-d-requires
put_count-d-requires c = let r = c in
    let s = r in
    omega (arith, call-most s.args.call.now s.requires.0, on-most s.args.on, off-most s.args.off)

pub put_all-requires : goal.put_all-requires
put_all-requires c = let r = c in
    let s = r in
    omega (arith, call-most s.args.call.now s.requires.0, on-most s.args.on, off-most s.args.off, acked-most s.args.acked)

pub returns : goal.returns
returns c = let p₅ = c in
    let p₄ = p₅ in
    let p₃ = p₄ in
    let p₂ = p₃ in
    let p₁ = p₂ in
    record-made
    _ _ _ _ _ _ _ _ _ _ _ _ _ _ _
    p₁.put_field-a.ensures p₂.put_moment-b.ensures p₃.put_moment-c.ensures p₄.put_count-d.ensures p₅.put_all.ensures
