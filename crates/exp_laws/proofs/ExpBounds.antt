-- `E` is never negative and never a NaN, unless x is; and for x ≤ 0 it is at most 1. Assumes nothing.
use mathlib.Core.Path.{◌≡◌, refl, sym, subst}
use mathlib.Core.List.{[], ◌∷◌}
use Prim.Native.Nat.{ℕ, zero, suc, ◌+◌, ◌-◌, ◌*◌, ◌/◌, ◌^◌, ◌≤◌, ◌<◌, min}
use native.Mathlib.Nat.{mul-pos, div-eq_of_lt}
use native.Mathlib.Omega.{arith}
use mathlib.Core.Bool.{Bool, true, false, not}
use lib.Dec.{T, leb→le}
use lib.Pow.{pow_mono}
use lib.IntN.{ℤ, pos, negsuc, neg_ℤ}
use lib.Signed.{le_z}
use lib.Ieee.{Float, nan, inf, fin, binary64, up, down, round, le, lt, neg, add, sub, mul, div, fits, of_int, of_bits, to_signed, is_nan}
use lib.Ieee.Fits.{down_pos}
use lib.Ieee.Scale.{finite}
use lib.Ieee.Positive.{den, den_pos}
use Rattle.ieee.specs.Range.{In, w64}
use Rattle.ieee.specs.Power.{power}
use Rattle.exp.specs.Exp.{horner, shifted, reduced, E}
use Rattle.ieee.proofs.Value.{P, N, Under, le→Le, Le→le, le_trans, le-neg, not-lt→le, le-no-nan}
use Rattle.ieee.proofs.Rounds.{mul-rounds, round-neg}
use Rattle.ieee.proofs.Representable.{rounds-ge, zero_exp}
use Rattle.ieee.proofs.Mono.{null, not_negative, mul_mono, whole-mono}
use Rattle.ieee.proofs.Bounds.{in-finite}
use Rattle.float_laws.proofs.Intervals.{Ex, var, lit, plus, less, times, none, more, within}
use Rattle.exp.proofs.ExpLaws.{shifted_in, cut_in, E-low, E-high, E-within}
use Rattle.exp_laws.proofs.ExpRest.{least, greatest, y-in}

abbrev one : Float
one = fin false 1 (pos 0)

abbrev minus-half : Float
minus-half = fin true 1 (negsuc 0)

abbrev plus-half : Float
plus-half = fin false 1 (negsuc 0)

-- ---- k as a float
minus-in : (n : ℕ) → n ≤ 1023 → In (neg (w64 1023)) (w64 1023) (round binary64 true n 1)
unfolding of_int
minus-in n h =
    let e = round-neg binary64 false n 1 in
    subst (In (neg (w64 1023)) (w64 1023)) (sym e)
    (record {
      low = le-neg (w64 n) (w64 1023) (whole-mono binary64 n 1023 h);
      high = le_trans (neg (w64 n)) (neg (w64 0)) (w64 1023) (le-neg (w64 0) (w64 n) (whole-mono binary64 0 n (omega arith))) (unfold neg le in tt);
    })

k-in : (k : ℤ) → T (le_z (negsuc 1021) k) → T (le_z k (pos 1023)) → In (neg (w64 1023)) (w64 1023) (of_int binary64 k)
unfolding of_int
k-in (pos n) p q =
    record {
      low = le_trans (neg (w64 1023)) (w64 0) (w64 n) (unfold neg le in tt) (whole-mono binary64 0 n (omega arith));
      high = whole-mono binary64 n 1023 (leb→le n 1023 q);
    }
k-in (negsuc n) p q = minus-in (suc n) (omega (arith, leb→le n 1021 p))

-- ---- the rest of x
abbrev K : Float → Float
K x = of_int binary64 (to_signed 63 (shifted x))

zero_rest : (s : Bool) → In minus-half plus-half (reduced (fin s 0 (pos 0)) (K (fin s 0 (pos 0))))
unfolding lt add sub mul to_signed of_int of_bits le
zero_rest true = record { low = tt; high = tt }
zero_rest false = record { low = tt; high = tt }

pub rest_in : (x : Float) → T (fits binary64 x) → In (neg (w64 708)) (w64 709) x → In minus-half plus-half (reduced x (K x))
rest_in nan F i = absurd (in-finite {lo = neg (w64 708)} {hi = w64 709} {x = nan} (unfold neg of_int in tt) (unfold of_int in tt) i)
rest_in (inf s) F i = absurd (in-finite {lo = neg (w64 708)} {hi = w64 709} {x = inf s} (unfold neg of_int in tt) (unfold of_int in tt) i)
rest_in (fin s zero e) F i = subst (λ (z : ℤ). In minus-half plus-half (reduced (fin s 0 z) (K (fin s 0 z)))) (sym (zero_exp binary64 s e F)) (zero_rest s)
rest_in (fin s (suc m) e) F i = rest_of (fin s (suc m) e) i (y-in s m e F i)
  where
    rest_of : (x : Float) → In (neg (w64 708)) (w64 709) x → In least greatest (sub binary64 x (mul binary64 (K x) (of_bits binary64 0x3fe6_2e42_fee0_0000))) → In minus-half plus-half (reduced x (K x))
    rest_of x i j =
        let c = cut_in (shifted x) (shifted_in x i) in
        let y = sub binary64 x (mul binary64 (K x) (of_bits binary64 0x3fe6_2e42_fee0_0000)) in
        let l = of_bits binary64 0x3dea_39ef_3579_3c76 in
        within ((least, greatest) ∷ (neg (w64 1023), w64 1023) ∷ []) (y ∷ K x ∷ []) (less binary64 (var 0) (times binary64 (var 1) (lit l))) minus-half plus-half (more j (more (k-in (to_signed 63 (shifted x)) c.0 c.1) none))
        (unfold le lt neg sub mul of_int of_bits in tt)

-- ---- the sum, for r from -1/2 to 1/2: from 1/4 to 7/4
one-over : ℕ → Ex
one-over n = lit (div binary64 (w64 1) (w64 n))

next : Ex → ℕ → Ex
next p n = plus binary64 (times binary64 p (var 0)) (lit (div binary64 (w64 1) (w64 n)))

tree : Ex
tree = next (next (next (next (next (next (next (next (next (next (next (next (next (one-over 6227020800) 479001600) 39916800) 3628800) 362880) 40320) 5040) 720) 120) 24) 6) 2) 1) 1

abbrev quarter : Float
quarter = fin false 1 (negsuc 1)

abbrev seven-quarters : Float
seven-quarters = fin false 7 (negsuc 1)

pub horner-in : (r : Float) → In minus-half plus-half r → In quarter seven-quarters (horner r)
unfolding horner tree next one-over
horner-in r i = within ((minus-half, plus-half) ∷ []) (r ∷ []) tree quarter seven-quarters (more i none) (unfold le lt add mul div of_int in tt)

-- ---- `E` is not negative
above_zero : (h : Float) (k : ℤ) → In quarter seven-quarters h → T (le (w64 0) (mul binary64 h (power k)))
unfolding of_int
above_zero h k i =
    let H = in-finite {lo = quarter} {hi = seven-quarters} {x = h} tt tt i in
    let n = not_negative h H (le_trans null quarter h (unfold le in tt) i.low) in
    rounds-ge binary64 (mul binary64 h (power k)) null _ _ _ (mul-pos (den_pos h) (den_pos (power k))) tt (unfold fits in tt) (mul-rounds binary64 h (power k) H tt)
    (go (P h) (N h) (den h) (P (power k)) (den (power k)) n)
  where
    go : (p n d q c : ℕ) → n ≡ 0 → Under 0 0 1 (p * q + n * 0) (p * 0 + n * q) (d * c)
    go p n d q c e = rw e (omega arith)

in-of-tests : (x : Float) → T (not (is_nan x)) → T (not (lt x (neg (w64 708)))) → T (not (lt (w64 709) x)) → In (neg (w64 708)) (w64 709) x
unfolding of_int neg
in-of-tests x n h k = record { low = not-lt→le x (neg (w64 708)) n (unfold is_nan in tt) h; high = not-lt→le (w64 709) x (unfold is_nan in tt) n k }

split : (b : Bool) {X : Type 0} → (T b → X) → (T (not b) → X) → X
split true f g = f tt
split false f g = g tt

pub E-ge : (x : Float) → T (fits binary64 x) → T (not (is_nan x)) → T (le (w64 0) (E x))
E-ge x F n =
    split (lt x (neg (w64 708))) (λ a. subst (λ (z : Float). T (le (w64 0) z)) (E-low x a) (unfold le of_int in tt))
    (λ a. split (lt (w64 709) x) (λ b. subst (λ (z : Float). T (le (w64 0) z)) (E-high x a b) (unfold le of_int in tt))
    (λ b. subst (λ (z : Float). T (le (w64 0) z)) (E-within x a b) (above_zero (horner (reduced x (K x))) (to_signed 63 (shifted x)) (horner-in (reduced x (K x)) (rest_in x F (in-of-tests x n a b))))))

pub E-no-nan : (x : Float) → T (fits binary64 x) → T (not (is_nan x)) → T (not (is_nan (E x)))
E-no-nan x F n = (le-no-nan (w64 0) (E x) (E-ge x F n)).1

-- ---- for x ≤ 0 it is at most 1
-- u ≤ 1/2: its whole part is not above zero
low-cut : (u : Float) → T (finite u) → T (le u plus-half) → T (le_z (to_signed 63 u) (pos 0))
unfolding to_signed
low-cut nan f h = absurd f
low-cut (inf s) f h = absurd f
low-cut (fin true m e) f h = under (min (m * up e / down e) (2 ^ 63))
  where
    under : (n : ℕ) → T (le_z (neg_ℤ (pos n)) (pos 0))
    under zero = tt
    under (suc n) = tt
low-cut (fin false m e) f h = subst (λ (q : ℕ). T (le_z (pos (min q (2 ^ 63 - 1))) (pos 0))) (sym (div-eq_of_lt {n = m * up e} {m = down e} (go (m * up e) (down e) (down_pos e) (le→Le (fin false m e) plus-half tt tt h)))) tt
  where
    go : (a d : ℕ) → 0 < d → a * 2 + 0 * d ≤ 1 * d + 0 * 2 → a < d
    go a d D h = omega arith

zero_is : w64 0 ≡ null
unfolding of_int
zero_is = refl

-- k below zero: 2 ^ k is a half at most
power-half : (n : ℕ) → T (le (power (negsuc n)) plus-half)
power-half n = Le→le (power (negsuc n)) plus-half tt tt (go (2 ^ suc n) (pow_mono {i = 1} {j = suc n} (omega arith)))
  where
    go : (p : ℕ) → 2 ≤ p → 1 * 2 + 0 * p ≤ 1 * p + 0 * 2
    go p h = omega arith

half_product : (h : Float) (n : ℕ) → In quarter seven-quarters h → T (le (mul binary64 h (power (negsuc n))) (w64 1))
unfolding of_int
half_product h n i =
    let H = in-finite {lo = quarter} {hi = seven-quarters} {x = h} tt tt i in
    le_trans (mul binary64 h (power (negsuc n))) (mul binary64 h plus-half) (w64 1)
    (mul_mono binary64 h (power (negsuc n)) plus-half H tt tt (le_trans null quarter h (unfold le in tt) i.low) (power-half n))
    (within ((quarter, seven-quarters) ∷ []) (h ∷ []) (times binary64 (var 0) (lit plus-half)) (w64 0) (w64 1) (more i none) (unfold le lt mul in tt)).high

-- k = 0: what is left of x is x, so not above zero, and the last step of the sum adds nothing to 1
zero_in : (x : Float) → In (neg (w64 708)) (w64 0) x → In (neg (w64 708)) (w64 0) (reduced x (w64 0))
unfolding le lt neg sub mul of_int of_bits
zero_in x i =
    within ((neg (w64 708), w64 0) ∷ []) (x ∷ [])
    (less binary64 (less binary64 (var 0) (times binary64 (lit (w64 0)) (lit (of_bits binary64 0x3fe6_2e42_fee0_0000)))) (times binary64 (lit (w64 0)) (lit (of_bits binary64 0x3dea_39ef_3579_3c76)))) (neg (w64 708)) (w64 0) (more i none) tt

horner-low : (r : Float) → In minus-half null r → In quarter (w64 1) (horner r)
unfolding horner tree next one-over
horner-low r i = within ((minus-half, null) ∷ []) (r ∷ []) tree quarter (w64 1) (more i none) (unfold le lt add mul div of_int in tt)

whole-product : (h : Float) → In quarter (w64 1) h → T (le (mul binary64 h (power (pos 0))) (w64 1))
unfolding of_int
whole-product h i = (within ((quarter, w64 1) ∷ []) (h ∷ []) (times binary64 (var 0) (lit (power (pos 0)))) (w64 0) (w64 1) (more i none) (unfold le lt mul in tt)).high

below_one : (x : Float) (k : ℤ) → In (neg (w64 708)) (w64 0) x → T (le_z k (pos 0)) → In minus-half plus-half (reduced x (of_int binary64 k)) → T (le (mul binary64 (horner (reduced x (of_int binary64 k))) (power k)) (w64 1))
below_one x (pos zero) j l i = whole-product (horner (reduced x (w64 0))) (horner-low (reduced x (w64 0)) (record { low = i.low; high = subst (λ (z : Float). T (le (reduced x (w64 0)) z)) zero_is (zero_in x j).high }))
below_one x (pos (suc n)) j l i = absurd (no n (leb→le (suc n) 0 l))
  where
    no : (n : ℕ) → suc n ≤ 0 → ⊥
    no n h = omega arith
below_one x (negsuc n) j l i = half_product (horner (reduced x (of_int binary64 (negsuc n)))) n (horner-in (reduced x (of_int binary64 (negsuc n))) i)
