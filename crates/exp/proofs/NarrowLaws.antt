-- An f64 rounded to the digits of an f32 by one addition and one subtraction: for a power of two M that is 2 ^ 29 times the place of a's leading digit (and not below 2 ^ -97),
-- (a + M) - M is `narrow a`, where that does not overflow. Assumes nothing.
use Rattle.std.proofs.Common.{◌≡◌, ℕ, suc, ◌+◌, ◌-◌, ◌*◌, ◌/◌, ◌%◌, ◌^◌, ◌<◌, ◌≤◌, Bool, true, false, cond, not, T, ltb, pos, sym, refl, ap, ◌∙◌, subst, true≢false, le_trans, lt_of_le_of_lt, mul-le-mul_right, div-lt_iff_lt-mul, lt_of_mul-lt-mul_right, mul-lt-mul_of_pos_right, mul-pos, le_of_mul-le-mul_right, arith, lit<, ltb→lt, lt→ltb, nltb→le, pow_pos, pow-add}
use Prim.Native.Nat.{compare}
use native.Mathlib.Nat
use native.Mathlib.Nat.{mul-div-mul_right}
use lib.Arith.{le→nltb}
use lib.Pow.{pow-lt}
use lib.Ieee.{Float, nan, inf, fin, binary32, binary64, minus, up, down, size, odd, round, units, add, sub, lt, fits}
use lib.Ieee.Digits.{minus_val}
use lib.Ieee.Bits.{is_true, is_false}
use lib.Ieee.Fits.{round_is, down_pos, fits_widens, round-fits, sub-fits, nearest-le}
use lib.Ieee.Exact.{HasValue, units_val, round_exact}
use lib.Ieee.Nearest.{closest, closest_same}
use lib.Ieee.Scale.{round_same}
use Rattle.ieee.specs.Power.{power}
use Rattle.exp.specs.Narrow.{narrow}
use Rattle.ieee.proofs.Units.{Units, size-more, closest-add, round-units, add-units, sub-units, same-value, rescale}

-- ---- 2 ^ (j - 1023) is 2 ^ (j + 51) of binary64's smallest values
power-units : (j : ℕ) → Units binary64 (power (minus j 1023)) (2 ^ (j + 51))
power-units j =
    (refl, go (up (minus j 1023)) (down (minus j 1023)) (2 ^ j) (2 ^ (j + 51)) (2 ^ 1023) (minus_val 1 j 1023) (pow-add 2 j 51))
  where
    go : (u d p q K : ℕ) → 1 * u * K ≡ 1 * p * d → q ≡ p * 2251799813685248 → 1 * u * (K * 2251799813685248) ≡ q * d
    go u d p q K h e = omega (arith, h, ap (λ (x : ℕ). x * d) e)

narrow-round : (a : Float) (v : ℕ) → Units binary64 a v → narrow a ≡ round binary32 false v (2 ^ 1074)
unfolding narrow
narrow-round nan v h = absurd h
narrow-round (inf s) v h = absurd h
narrow-round (fin true m e) v h = absurd (true≢false h.0)
narrow-round (fin false m e) v h = round_same binary32 false (m * up e) (down e) v (2 ^ 1074) (down_pos e) (pow_pos 1074) h.1

-- a value of w / 2 ^ 149 is below 2 ^ 128, or not
under : (y : Float) (w : ℕ) → HasValue y false w (2 ^ 149) → w < 2 ^ 277 → T (lt y (fin false 1 (pos 128)))
unfolding lt
under nan w v h = absurd v
under (inf s) w v h = absurd v
under (fin true m e) w v h = absurd (true≢false v.0)
under (fin false m e) w v h = lt→ltb (m * up e * 1) (2 ^ 128 * down e) (go (m * up e) (down e) w (2 ^ 149) (2 ^ 128) (down_pos e) v.1 h)
  where
    go : (x d w C B : ℕ) → 0 < d → x * C ≡ w * d → w < B * C → x * 1 < B * d
    go x d w C B D e h = lt_of_mul-lt-mul_right C (omega (arith, e, mul-lt-mul_of_pos_right {k = d} h D))

over : (y : Float) (w : ℕ) → HasValue y false w (2 ^ 149) → 2 ^ 277 ≤ w → T (not (lt y (fin false 1 (pos 128))))
unfolding lt
over nan w v h = absurd v
over (inf s) w v h = absurd v
over (fin true m e) w v h = absurd (true≢false v.0)
over (fin false m e) w v h = le→nltb (m * up e * 1) (2 ^ 128 * down e) (go (m * up e) (down e) w (2 ^ 149) (2 ^ 128) (pow_pos 149) v.1 h)
  where
    go : (x d w C B : ℕ) → 0 < C → x * C ≡ w * d → B * C ≤ w → B * d ≤ x * 1
    go x d w C B D e h = le_of_mul-le-mul_right {k = C} (omega (arith, e, mul-le-mul_right d h)) D

-- the two cases of `units`
units_in : (q k : ℕ) → q * 2 ^ k < 2 ^ 277 → HasValue (units binary32 false q k) false (q * 2 ^ k) (2 ^ 149)
units_in q k h = units_val binary32 false q k h

units-out : (q k : ℕ) → 2 ^ 277 ≤ q * 2 ^ k → units binary32 false q k ≡ inf false
unfolding units
units-out q k h = ap (λ (b : Bool). cond b (odd 25 false q k 149) (inf false)) (is_false (ltb (q * 2 ^ k) (2 ^ 277)) (le→nltb (q * 2 ^ k) (2 ^ 277) h))

module _ (a : Float) (v j : ℕ) (lo : 926 ≤ j) (hi : j < 2000) (av : Units binary64 a v) (small : v < 2 ^ (j + 51)) (digits : size (v / 2 ^ 925) - 24 ≡ j - 926) where
  abbrev i : ℕ
  i = j - 1

  abbrev M : Float
  M = power (minus j 1023)

  abbrev Q : ℕ
  Q = closest v (2 ^ i)

  -- 2 ^ (j + 51) is 2 ^ 52 units of 2 ^ i
  split : 2 ^ (j + 51) ≡ 4503599627370496 * 2 ^ i
  split = ap (λ (x : ℕ). 2 ^ x) (go j lo) ∙ pow-add 2 52 i
    where
      go : (j : ℕ) → 926 ≤ j → j + 51 ≡ 52 + (j - 1)
      go j h = omega arith

  Q-le : Q ≤ 4503599627370496
  Q-le = le_trans (nearest-le (v / 2 ^ i) (compare (v % 2 ^ i * 2) (2 ^ i))) ((div-lt_iff_lt-mul (pow_pos i)).1 (subst (λ (x : ℕ). v < x) split small))

  -- ---- the sum
  pub z : Float
  z = add binary64 a M

  z-is : z ≡ units binary64 false (Q + 4503599627370496) i
  unfolding z
  z-is =
      add-units binary64 a M v (2 ^ (j + 51)) av (power-units j)
      ∙ round-units binary64 false (v + 2 ^ (j + 51))
      ∙ ap (λ (k : ℕ). units binary64 false (closest (v + 2 ^ (j + 51)) (2 ^ k)) k) (ap (λ (x : ℕ). x - 53) (size-more v (j + 51) small) ∙ go j lo)
      ∙ ap (λ (x : ℕ). units binary64 false (closest (v + x) (2 ^ i)) i) split
      ∙ ap (λ (x : ℕ). units binary64 false x i) (closest-add v (2 ^ i) 4503599627370496 (pow_pos i) refl)
    where
      go : (j : ℕ) → 926 ≤ j → suc (j + 51) - 53 ≡ j - 1
      go j h = omega arith

  top : (Q + 4503599627370496) * 2 ^ i < 2 ^ 2098
  top =
      lt_of_le_of_lt (mul-le-mul_right (2 ^ i) (twice Q Q-le))
      (subst (λ (x : ℕ). x < 2 ^ 2098) (pow-add 2 53 i) (pow-lt (under j hi)))
    where
      twice : (q : ℕ) → q ≤ 4503599627370496 → q + 4503599627370496 ≤ 9007199254740992
      twice q h = omega arith

      under : (j : ℕ) → j < 2000 → 53 + (j - 1) < 2098
      under j h = omega arith

  z-units : Units binary64 z ((Q + 4503599627370496) * 2 ^ i)
  z-units = subst (λ (x : Float). Units binary64 x ((Q + 4503599627370496) * 2 ^ i)) (sym z-is) (units_val binary64 false (Q + 4503599627370496) i top)

  -- ---- the difference, which is exact
  pub y : Float
  y = sub binary64 z M

  y-value : Units binary64 y (Q * 2 ^ i)
  unfolding y
  y-value =
      subst (λ (x : Float). Units binary64 x (Q * 2 ^ i))
      (sym (sub-units binary64 z M ((Q + 4503599627370496) * 2 ^ i) (2 ^ (j + 51)) z-units (power-units j) (subst (λ (x : ℕ). x ≤ (Q + 4503599627370496) * 2 ^ i) (sym split) (mul-le-mul_right (2 ^ i) (Nat.le-add_left 4503599627370496 Q)))
      ∙ ap (λ (x : ℕ). round binary64 false x (2 ^ 1074)) (ap (λ (x : ℕ). (Q + 4503599627370496) * 2 ^ i - x) split ∙ less Q (2 ^ i))))
      (round_exact binary64 false (Q * 2 ^ i) (2 ^ 1074) Q i (pow_pos 1074) (lt_of_le_of_lt Q-le (lit< tt)) (lt_of_le_of_lt (mul-le-mul_right (2 ^ i) (Nat.le-add_right Q 4503599627370496)) top) refl)
    where
      less : (q w : ℕ) → (q + 4503599627370496) * w - 4503599627370496 * w ≡ q * w
      less q w = omega arith

  -- ---- `narrow a`, in the same digits
  pub k : ℕ
  k = j - 926

  narrowed : narrow a ≡ units binary32 false Q k
  unfolding k
  narrowed =
      narrow-round a v av
      ∙ round_is binary32 false v (2 ^ 1074)
      ∙ ap (λ (x : ℕ). units binary32 false (closest (v * 2 ^ 149) (2 ^ 1074 * 2 ^ (size x - 24))) (size x - 24)) (mul-div-mul_right {m = 2 ^ 149} v (2 ^ 925) (pow_pos 149))
      ∙ ap (λ (x : ℕ). units binary32 false (closest (v * 2 ^ 149) (2 ^ 1074 * 2 ^ x)) x) digits
      ∙ ap (λ (x : ℕ). units binary32 false x (j - 926)) (closest_same (v * 2 ^ 149) (2 ^ 1074 * 2 ^ (j - 926)) v (2 ^ i) (mul-pos (pow_pos 1074) (pow_pos (j - 926))) (pow_pos i) same)
    where
      places : (j : ℕ) → 926 ≤ j → j - 1 ≡ 925 + (j - 926)
      places j h = omega arith

      go : (v a b c d : ℕ) → d ≡ b * c → v * a * d ≡ v * (b * a * c)
      go v a b c d h = omega (arith, ap (λ (x : ℕ). v * a * x) h)

      same : v * 2 ^ 149 * 2 ^ i ≡ v * (2 ^ 1074 * 2 ^ (j - 926))
      same = go v (2 ^ 149) (2 ^ 925) (2 ^ (j - 926)) (2 ^ i) (ap (λ (x : ℕ). 2 ^ x) (places j lo) ∙ pow-add 2 925 (j - 926))

  -- y in units of 2 ^ -149
  y-small : HasValue y false (Q * 2 ^ k) (2 ^ 149)
  unfolding k
  y-small = rescale y false (Q * 2 ^ i) (2 ^ 1074) (Q * 2 ^ (j - 926)) (2 ^ 149) (pow_pos 1074) (go Q (2 ^ 149) (2 ^ 925) (2 ^ (j - 926)) (2 ^ i) (ap (λ (x : ℕ). 2 ^ x) (places j lo) ∙ pow-add 2 925 (j - 926))) y-value
    where
      places : (j : ℕ) → 926 ≤ j → j - 1 ≡ 925 + (j - 926)
      places j h = omega arith

      go : (q a b c d : ℕ) → d ≡ b * c → q * c * (b * a) ≡ q * d * a
      go q a b c d h = omega (arith, ap (λ (x : ℕ). q * a * x) h)

  -- ---- the two, below 2 ^ 128 and from there on
  r-fits : T (fits binary32 (units binary32 false Q k))
  r-fits = subst (λ (x : Float). T (fits binary32 x)) (sym (narrow-round a v av) ∙ narrowed) (round-fits binary32 false v (2 ^ 1074))

  y-fits : T (fits binary64 y)
  unfolding y
  y-fits = sub-fits binary64 z M

  pub narrow-by : narrow a ≡ cond (lt y (fin false 1 (pos 128))) y (inf false)
  narrow-by = go (ltb (Q * 2 ^ k) (2 ^ 277)) (ltb→lt (Q * 2 ^ k) (2 ^ 277)) (nltb→le (Q * 2 ^ k) (2 ^ 277))
    where
      go : (b : Bool) → (T b → Q * 2 ^ k < 2 ^ 277) → (T (not b) → 2 ^ 277 ≤ Q * 2 ^ k) → narrow a ≡ cond (lt y (fin false 1 (pos 128))) y (inf false)
      go true h g =
          narrowed
          ∙ same-value binary64 (units binary32 false Q k) y (Q * 2 ^ k) (2 ^ 149) (Q * 2 ^ k) (2 ^ 149) (fits_widens (units binary32 false Q k) r-fits) y-fits (pow_pos 149) (pow_pos 149) (units_in Q k (h tt)) y-small refl
          ∙ sym (ap (λ (t : Bool). cond t y (inf false)) (is_true (lt y (fin false 1 (pos 128))) (under y (Q * 2 ^ k) y-small (h tt))))
      go false h g =
          narrowed
          ∙ units-out Q k (g tt)
          ∙ sym (ap (λ (t : Bool). cond t y (inf false)) (is_false (lt y (fin false 1 (pos 128))) (over y (Q * 2 ^ k) y-small (g tt))))

  -- in the program's words
  pub narrow-is : narrow a ≡ cond (lt (sub binary64 (add binary64 a M) M) (fin false 1 (pos 128))) (sub binary64 (add binary64 a M) M) (inf false)
  unfolding y z
  narrow-is = narrow-by
