-- Document 01, "exp.": E, for f64 and for f32. Definitions only.
use Rattle.std.specs.Prelude.{ℕ, false, cond, from_bits, Float}
use Rattle.std.specs.Float.{inf, binary64}
use Rattle.std.specs.Float.Ieee.{neg, add, sub, mul, div, lt, of_int, to_signed}
use Rattle.ieee.specs.Range.{w64}
use Rattle.ieee.specs.Power.{power}
use Rattle.exp.specs.Narrow.{narrow}

-- one step of Horner's rule: p * r + 1.0 / n!, each operation rounded once; the factorial is handed over
abbrev pub horner_step : Float → Float → ℕ → Float
horner_step r p fact = add binary64 (mul binary64 p r) (div binary64 (w64 1) (w64 fact))

-- "Horner from n = 13 down to 0 with coefficients 1.0 / n!"
unfoldable pub horner : Float → Float
horner r =
    let p12 = horner_step r (div binary64 (w64 1) (w64 6227020800)) 479001600 in
    let p11 = horner_step r p12 39916800 in
    let p10 = horner_step r p11 3628800 in
    let p9 = horner_step r p10 362880 in
    let p8 = horner_step r p9 40320 in
    let p7 = horner_step r p8 5040 in
    let p6 = horner_step r p7 720 in
    let p5 = horner_step r p6 120 in
    let p4 = horner_step r p5 24 in
    let p3 = horner_step r p4 6 in
    let p2 = horner_step r p3 2 in
    let p1 = horner_step r p2 1 in
    horner_step r p1 1

-- "t = x times the double 3FF71547652B82FE": t + 0.5, or t - 0.5 where x < 0; k is this, cut towards zero
abbrev pub shifted : Float → Float
shifted x = let t = mul binary64 x (from_bits binary64 0x3ff7_1547_652b_82fe) in cond (lt x (w64 0)) (sub binary64 t (from_bits binary64 0x3fe0_0000_0000_0000)) (add binary64 t (from_bits binary64 0x3fe0_0000_0000_0000))

-- "r = (x - k times 3FE62E42FEE00000) - k times 3DEA39EF35793C76"
abbrev pub reduced : Float → Float → Float
reduced x k = sub binary64 (sub binary64 x (mul binary64 k (from_bits binary64 0x3fe6_2e42_fee0_0000))) (mul binary64 k (from_bits binary64 0x3dea_39ef_3579_3c76))

-- "then times 2^k", for an x from -708 to 709, and for a NaN, whose k is 0 as Rust's `as` cuts it, and which stays a NaN
abbrev pub in_range_e : Float → Float
in_range_e x = let k = to_signed 63 (shifted x) in mul binary64 (horner (reduced x (of_int binary64 k))) (power k)

-- "x below -708 gives 0, above 709 infinity"
unfoldable pub E : Float → Float
E x = cond (lt x (neg (w64 708))) (w64 0) (cond (lt (w64 709) x) (inf false) (in_range_e x))

-- "For f32: widen, E, narrow to nearest, ties to even"; widening changes no value
abbrev pub E32 : Float → Float
E32 x = narrow (E x)
