-- `adif::put_field` meets its contract. Assumes nothing.
use native.Mathlib.Omega.{arith}
use lib.ListN.{length}
use Rattle.adif.specs.Adif.{written}
use Rattle.adif.proofs.Steps.{put-more, decimal-most}
use Rattle.adif.proofs.put_field.Goals as goal

pub put_char-e-requires : goal.put_char-e-requires
put_char-e-requires c = let r = c in
    let s = r in
    omega (arith, decimal-most (length s.args.value.now))

pub put_all-requires : goal.put_all-requires
put_all-requires c = let r = c in
    let s = r in
    omega (arith, decimal-most (length s.args.value.now))

pub returns : goal.returns
unfolding written
returns c = let p₆ = c in
    let p₅ = p₆ in
    let p₄ = p₅ in
    let p₃ = p₄ in
    let p₂ = p₃ in
    let p₁ = p₂ in
    let value = put-more _ _ _ _ _ _ _ _ p₅.put_char-e.ensures p₆.put_all.ensures in
    let count = put-more _ _ _ _ _ _ _ _ p₃.put_char-c.ensures (put-more _ _ _ _ _ _ _ _ p₄.put_decimal-d.ensures value) in
    put-more _ _ _ _ _ _ _ _ p₁.put_char-a.ensures (put-more _ _ _ _ _ _ _ _ p₂.put_all-b.ensures count)
