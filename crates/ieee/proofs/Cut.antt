-- The whole part of a value, `to_unsigned 64`: below 2 ^ 52, at its ends, and against the value itself. Assumes nothing.
use mathlib.Core.Path.{◌≡◌, refl, sym, ap, subst}
use Prim.Native.Nat.{ℕ, ◌+◌, ◌-◌, ◌*◌, ◌/◌, ◌^◌, ◌≤◌, ◌<◌, min}
use native.Mathlib.Nat
use native.Mathlib.Nat.{div-lt_iff_lt-mul, lt_of_not-le, zero-lt-suc, le_of_mul-le-mul_right, le-div_iff_mul-le, div-eq_of_lt}
use native.Mathlib.Omega.{arith}
use mathlib.Core.Bool.{true, false, not}
use lib.Dec.{T, ltb→lt, nltb→le, lit≤, lit<}
use lib.IntN.{ℤ}
use lib.Ieee.{Float, nan, inf, fin, binary64, up, down, lt, of_int, to_unsigned, is_nan}
use lib.Ieee.Fits.{down_pos}
use lib.Ieee.Exact.{HasValue}
use lib.Ieee.Order.{le_of_values}
use lib.Ieee.Back.{round_whole, unsigned_back}
use lib.Ieee.Positive.{den, den_pos}
use Rattle.ieee.specs.Range.{w64}
use Rattle.ieee.proofs.Tests.{in-float}
use Rattle.ieee.proofs.Value.{P, N, finite-no-nan, lt_not_le, not-lt→le, le→Le}
use Rattle.ieee.proofs.Exact.{is-of-value}

-- 2 ^ 52
abbrev pub big : ℕ
big = 4503599627370496

-- ---- below 2 ^ 52
quot-lt : (a d : ℕ) → 0 < d → a * 1 < big * d → a / d < big
quot-lt a d D h = (div-lt_iff_lt-mul D).1 (omega arith)

capped : (q : ℕ) → q < big → min q (2 ^ 64 - 1) ≡ q
capped q h = omega arith

module _ (m : ℕ) (e : ℤ) (q : T (lt (fin false m e) (w64 big))) where
  pub quot : m * up e / down e < big
  unfolding lt of_int
  quot = quot-lt (m * up e) (down e) (down_pos e) (ltb→lt (m * up e * 1) (big * down e) q)

  pub cut : to_unsigned 64 (fin false m e) ≡ m * up e / down e
  unfolding to_unsigned
  cut = capped (m * up e / down e) quot

pub cut-lt : (x : Float) → T (lt x (w64 big)) → to_unsigned 64 x < big
unfolding lt of_int to_unsigned
cut-lt nan q = absurd q
cut-lt (inf true) q = lit< tt
cut-lt (inf false) q = absurd q
cut-lt (fin true m e) q = lit< tt
cut-lt (fin false m e) q = subst (λ (k : ℕ). k < big) (sym (cut m e q)) (quot m e q)

pub cut_below : (x : Float) (t : ℕ) → t ≡ to_unsigned 64 x → T (lt x (w64 big)) → t < big
cut_below x t e q = subst (λ (k : ℕ). k < big) (sym e) (cut-lt x q)

-- a whole number below 2 ^ 52 is its own whole part
pub back : (k : ℕ) → k < big → to_unsigned 64 (w64 k) ≡ k
back k h = (unsigned_back binary64 64 k (in-float binary64 k (omega arith)) (omega arith)).1

-- ---- a whole number below 2 ^ 52 against a value
whole-value : (t : ℕ) → t < big → HasValue (w64 t) false t 1
unfolding of_int
whole-value t h = round_whole binary64 false t (Nat.le_trans (Nat.le_of_lt h) (lit≤ tt))

-- t < m * 2 ^ e, and not
pub test-true : (m : ℕ) (e : ℤ) (t : ℕ) → t < big → T (lt (w64 t) (fin false m e)) → t * down e < m * up e
test-true m e t b h =
    lt_of_not-le (λ (g : m * up e ≤ t * down e).
    lt_not_le (w64 t) (fin false m e) h (le_of_values (fin false m e) (w64 t) (m * up e) (down e) t 1 (down_pos e) (zero-lt-suc 0) (refl, refl) (whole-value t b) (omega (arith, g))))

-- y ≤ z, for a z that is t: y is no more than t
below-whole : (a d P N D t : ℕ) → 0 < D → P * 1 + 0 * D ≡ t * D + N * 1 → a * D + N * d ≤ P * d + 0 * D → a ≤ t * d
below-whole a d P N D t H e h = le_of_mul-le-mul_right {k = D} (omega (arith, h, ap (λ (x : ℕ). x * d) e)) H

pub test-false : (m : ℕ) (e : ℤ) (t : ℕ) → t < big → T (not (lt (w64 t) (fin false m e))) → m * up e ≤ t * down e
test-false m e t b h =
    let i = is-of-value (w64 t) t 1 (whole-value t b) in
    below-whole (m * up e) (down e) (P (w64 t)) (N (w64 t)) (den (w64 t)) t (den_pos (w64 t)) i.1
    (le→Le (fin false m e) (w64 t) tt i.0 (not-lt→le (w64 t) (fin false m e) (finite-no-nan (w64 t) i.0) (unfold is_nan in tt) h))

-- ---- from 2 ^ 64 on, and not above zero
at_cap : (k : ℕ) → 2 ^ 64 ≤ k → min k (2 ^ 64 - 1) ≡ 2 ^ 64 - 1
at_cap k h = omega arith

pub cut-huge : (x : Float) → T (lt (w64 0) x) → T (not (lt x (w64 (2 ^ 64)))) → 2 ^ 64 - 1 ≡ to_unsigned 64 x
unfolding lt of_int to_unsigned
cut-huge nan p q = absurd p
cut-huge (inf true) p q = absurd p
cut-huge (inf false) p q = refl
cut-huge (fin true m e) p q = absurd p
cut-huge (fin false m e) p q =
    sym (at_cap (m * up e / down e) ((le-div_iff_mul-le (down_pos e)).1 (omega (arith, nltb→le (m * up e * 1) (18446744073709551616 * down e) q))))

none : (a d : ℕ) → 0 < d → a * 1 ≤ 0 * d → a < d
none a d D h = omega arith

pub cut-zero : (x : Float) → T (not (lt (w64 0) x)) → 0 ≡ to_unsigned 64 x
unfolding lt of_int to_unsigned
cut-zero nan p = refl
cut-zero (inf true) p = refl
cut-zero (inf false) p = absurd p
cut-zero (fin true m e) p = refl
cut-zero (fin false m e) p = sym (ap (λ (q : ℕ). min q (2 ^ 64 - 1)) (div-eq_of_lt {n = m * up e} {m = down e} (none (m * up e) (down e) (down_pos e) (nltb→le (0 * down e) (m * up e * 1) p))))
