-- The exponent that `E` takes out of x: from -1022 to 1023. Assumes nothing.
use Rattle.std.proofs.Common.{◌≡◌, ℕ, zero, suc, ◌-◌, ◌*◌, ◌/◌, ◌^◌, ◌<◌, ◌≤◌, min, Bool, true, false, cond, not, T, pos, negsuc, neg_ℤ, sym, refl, ap, ◌∙◌, subst, div-mul-le_self, le_of_mul-le-mul_right, arith, le→leb}
use lib.Signed.{le_z}
use lib.Ieee.{Float, nan, inf, fin, binary64, up, down, le, lt, neg, add, sub, mul, div, of_bits, of_int, to_signed}
use lib.Ieee.Fits.{down_pos}
use lib.Ieee.Bits.{is_true, is_false}
use Rattle.ieee.specs.Range.{In, w64}
use Rattle.exp.specs.Exp.{shifted, in_range_e, horner, E}
use Rattle.ieee.proofs.Value.{le→Le}
use Rattle.ieee.proofs.Mono.{mul-mono-left}
use Rattle.ieee.proofs.Bounds.{in-finite, add-in, sub_in, in-wider}

-- -1022 and 1023.5
abbrev pub lo : Float
lo = fin true 511 (pos 1)

abbrev pub hi : Float
hi = fin false 2047 (negsuc 0)

-- ---- cut towards zero
low-cut : (n : ℕ) → n ≤ 1022 → T (le_z (negsuc 1021) (neg_ℤ (pos n))) × T (le_z (neg_ℤ (pos n)) (pos 1023))
low-cut zero h = (tt, tt)
low-cut (suc n) h = (le→leb n 1021 (omega arith), tt)

cut_low : (a d : ℕ) → 0 < d → a ≤ 1022 * d → min (a / d) (2 ^ 63) ≤ 1022
cut_low a d D h =
    let k : a / d ≤ 1022 = le_of_mul-le-mul_right {k = d} (omega (arith, div-mul-le_self a d)) D in
    omega arith

cut_high : (a d : ℕ) → 0 < d → a * 2 ≤ 2047 * d → min (a / d) (2 ^ 63 - 1) ≤ 1023
cut_high a d D h =
    let k : a / d * 2 ≤ 2047 = le_of_mul-le-mul_right {k = d} (omega (arith, div-mul-le_self a d)) D in
    omega arith

pub cut_in : (u : Float) → In lo hi u → T (le_z (negsuc 1021) (to_signed 63 u)) × T (le_z (to_signed 63 u) (pos 1023))
unfolding to_signed
cut_in nan i = absurd (in-finite {lo = lo} {hi = hi} {x = nan} tt tt i)
cut_in (inf s) i = absurd (in-finite {lo = lo} {hi = hi} {x = inf s} tt tt i)
cut_in (fin true m e) i = low-cut (min (m * up e / down e) (2 ^ 63)) (cut_low (m * up e) (down e) (down_pos e) (omega (arith, le→Le lo (fin true m e) tt tt i.low)))
cut_in (fin false m e) i = (tt, le→leb (min (m * up e / down e) (2 ^ 63 - 1)) 1023 (cut_high (m * up e) (down e) (down_pos e) (omega (arith, le→Le (fin false m e) hi tt tt i.high))))

-- ---- x / ln 2
abbrev pub log2e : Float
log2e = of_bits binary64 0x3ff7_1547_652b_82fe

abbrev pub half : Float
half = of_bits binary64 0x3fe0_0000_0000_0000

pub t-in : (x : Float) → In (neg (w64 708)) (w64 709) x → In (mul binary64 (neg (w64 708)) log2e) (mul binary64 (w64 709) log2e) (mul binary64 x log2e)
unfolding neg of_int of_bits
t-in x i =
    let X = in-finite {lo = neg (w64 708)} {hi = w64 709} {x = x} tt tt i in
    record {
      low = mul-mono-left binary64 (neg (w64 708)) x log2e tt X tt (unfold le in tt) i.low;
      high = mul-mono-left binary64 x (w64 709) log2e X tt tt (unfold le in tt) i.high;
    }

pub shifted_in : (x : Float) → In (neg (w64 708)) (w64 709) x → In lo hi (shifted x)
unfolding le sub add mul neg of_int of_bits
shifted_in x i = go (lt x (w64 0))
  where
    t : Float
    t = mul binary64 x log2e

    a : Float
    a = mul binary64 (neg (w64 708)) log2e

    b : Float
    b = mul binary64 (w64 709) log2e

    halves : In half half half
    halves = record { low = tt; high = tt }

    go : (s : Bool) → In lo hi (cond s (sub binary64 t half) (add binary64 t half))
    go true = in-wider lo hi tt tt (sub_in binary64 a b half half t half tt tt tt tt (t-in x i) halves)
    go false = in-wider lo hi tt tt (add-in binary64 a b half half t half tt tt tt tt (t-in x i) halves)

-- ---- the cases of `E`
pub E-low : (x : Float) → T (lt x (neg (w64 708))) → w64 0 ≡ E x
unfolding E
E-low x h = sym (ap (λ (b : Bool). cond b (w64 0) (cond (lt (w64 709) x) (inf false) (in_range_e x))) (is_true (lt x (neg (w64 708))) h))

pub E-high : (x : Float) → T (not (lt x (neg (w64 708)))) → T (lt (w64 709) x) → inf false ≡ E x
unfolding E
E-high x h k =
    sym (ap (λ (b : Bool). cond b (w64 0) (cond (lt (w64 709) x) (inf false) (in_range_e x))) (is_false (lt x (neg (w64 708))) h)
    ∙ ap (λ (b : Bool). cond b (inf false) (in_range_e x)) (is_true (lt (w64 709) x) k))

pub E-within : (x : Float) → T (not (lt x (neg (w64 708)))) → T (not (lt (w64 709) x)) → in_range_e x ≡ E x
unfolding E
E-within x h k =
    sym (ap (λ (b : Bool). cond b (w64 0) (cond (lt (w64 709) x) (inf false) (in_range_e x))) (is_false (lt x (neg (w64 708))) h)
    ∙ ap (λ (b : Bool). cond b (inf false) (in_range_e x)) (is_false (lt (w64 709) x) k))

pub E-nan : (x : Float) → x ≡ nan → x ≡ E x
E-nan x h = subst (λ (y : Float). y ≡ E y) (sym h) at-nan
  where
    at-nan : nan ≡ E nan
    at-nan = unfold E horner lt add sub mul div to_signed of_int of_bits in refl
