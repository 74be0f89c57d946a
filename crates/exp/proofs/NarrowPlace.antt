-- The power of two that `rounded` adds, and the cases of `narrow`. Assumes nothing.
use Rattle.std.proofs.Common.{◌≡◌, ℕ, zero, suc, ◌+◌, ◌-◌, ◌*◌, ◌/◌, ◌^◌, ◌<◌, ◌≤◌, max, Bool, true, false, cond, not, ◌&&◌, T, ℤ, pos, negsuc, sym, refl, ap, ◌∙◌, subst, lt_of_lt_of_le, mul-le-mul_right, zero-lt-suc, lt_of_mul-lt-mul_right, mul-lt-mul_of_pos_right, mul-pos, le-div_iff_mul-le, le_of_mul-le-mul_right, mul-div_cancel, arith, ltb→lt, nltb→le, pow_pos, pow_mono, pow-add}
use native.Mathlib.Nat
use lib.Ieee.{Float, nan, inf, fin, binary32, binary64, up, down, size, round, lt, le, neg, fits, to_bits, of_int, is_nan, add, sub, minus}
use lib.Ieee.Digits.{size-lt, size-le, size_reaches}
use lib.Ieee.Fits.{up_pos, down_pos, kept-lt, nan-fits, inf-fits, round-fits}
use lib.Ieee.Order.{round_mono}
use Rattle.ieee.specs.Range.{w64}
use Rattle.exp.specs.Narrow.{narrow}
use Rattle.ieee.proofs.Representable.{units_of, zero_exp}
use Rattle.ieee.proofs.Rounds.{round-neg}
use Rattle.ieee.specs.Power.{power}
use Rattle.exp.proofs.NarrowLaws.{narrow-is}
use Rattle.ieee.proofs.Units.{Units, size-shr}

-- a finite value's size in units of 2 ^ -1074, and the exponent's field of the power of two by whose addition it is rounded
unfoldable pub units_at : Float → ℕ
units_at nan = 0
units_at (inf s) = 0
units_at (fin s m e) = m * up e * 2 ^ 1074 / down e

abbrev pub spot : Float → ℕ
spot a = max 926 (size (units_at a) - 23)

-- above zero and below 2 ^ 128: a finite number that is not 0
pub data Plain : Float → Type 0 where
  plain : (m : ℕ) (e : ℤ) → Plain (fin false (suc m) e)

no_above : (d : ℕ) → 0 * d < 0 * 1 → ⊥
no_above d h = omega arith

pub is_plain : (a : Float) → T (lt (w64 0) a) → T (lt a (fin false 1 (pos 128))) → Plain a
unfolding lt of_int
is_plain nan p q = absurd p
is_plain (inf true) p q = absurd p
is_plain (inf false) p q = absurd q
is_plain (fin true m e) p q = absurd p
is_plain (fin false zero e) p q = absurd (none (up e) (down e) (ltb→lt (0 * down e) (0 * up e * 1) p))
  where
    none : (u d : ℕ) → 0 * d < 0 * u * 1 → ⊥
    none u d h = omega arith
is_plain (fin false (suc m) e) p q = plain m e

module _ (m : ℕ) (e : ℤ) (F : T (fits binary64 (fin false (suc m) e))) where
  abbrev v : ℕ
  v = units_at (fin false (suc m) e)

  v-units : Units binary64 (fin false (suc m) e) v
  unfolding units_at
  v-units =
      let u = units_of binary64 false m e F in
      (refl, subst (λ (x : ℕ). suc m * up e * 2 ^ 1074 ≡ x * down e) (sym (ap (λ (x : ℕ). x / down e) u.1 ∙ mul-div_cancel (suc m * 2 ^ u.0) (down_pos e))) u.1)

  -- by the tests against 2 ^ 128 and 2 ^ -126
  v_high : T (lt (fin false (suc m) e) (fin false 1 (pos 128))) → v < 2 ^ 1202
  unfolding lt
  v_high h = go (suc m * up e) (down e) v (2 ^ 1074) (2 ^ 128) (pow_pos 1074) v-units.1 (ltb→lt (suc m * up e * 1) (2 ^ 128 * down e) h)
    where
      go : (x d w C B : ℕ) → 0 < C → x * C ≡ w * d → x * 1 < B * d → w < B * C
      go x d w C B D e h = lt_of_mul-lt-mul_right d (omega (arith, e, mul-lt-mul_of_pos_right {k = C} h D))

  v-small : T (lt (fin false (suc m) e) (fin false 1 (negsuc 125))) → v < 2 ^ 948
  unfolding lt
  v-small h = go (suc m * up e) (down e) v (2 ^ 126) (2 ^ 948) (pow_pos 948) v-units.1 (ltb→lt (suc m * up e * 2 ^ 126) (1 * down e) h)
    where
      go : (x d w C B : ℕ) → 0 < B → x * (C * B) ≡ w * d → x * C < 1 * d → w < B
      go x d w C B D e h = lt_of_mul-lt-mul_right d (omega (arith, e, mul-lt-mul_of_pos_right {k = B} h D))

  v-large : T (not (lt (fin false (suc m) e) (fin false 1 (negsuc 125)))) → 2 ^ 948 ≤ v
  unfolding lt
  v-large h = go (suc m * up e) (down e) v (2 ^ 126) (2 ^ 948) (down_pos e) v-units.1 (nltb→le (suc m * up e * 2 ^ 126) (1 * down e) h)
    where
      go : (x d w C B : ℕ) → 0 < d → x * (C * B) ≡ w * d → 1 * d ≤ x * C → B ≤ w
      go x d w C B D e h = le_of_mul-le-mul_right {k = d} (omega (arith, e, mul-le-mul_right B h)) D

  -- ---- the field, by the number of digits
  abbrev S : ℕ
  S = size v

  pub spot-small : T (lt (fin false (suc m) e) (fin false 1 (negsuc 125))) → 926 ≡ spot (fin false (suc m) e)
  spot-small h = go S (size-le v 948 (v-small h))
    where
      go : (s : ℕ) → s ≤ 948 → 926 ≡ max 926 (s - 23)
      go s h = omega arith

  -- the leading digit's place
  digit : 53 ≤ S → 4503599627370496 ≤ v / 2 ^ (S - 53)
  digit h =
      (le-div_iff_mul-le (pow_pos (S - 53))).1
      (subst (λ (x : ℕ). x ≤ v) (pow-add 2 52 (S - 53)) (size_reaches v (52 + (S - 53)) (under S h)))
    where
      under : (s : ℕ) → 53 ≤ s → 52 + (s - 53) < s
      under s h = omega arith

  field_is : 53 ≤ S → to_bits binary64 (fin false (suc m) e) / 4503599627370496 ≡ S - 52
  unfolding to_bits units_at
  field_is h = go (v / 2 ^ (S - 53)) S (digit h) (kept-lt 53 v) h
    where
      go : (w s : ℕ) → 4503599627370496 ≤ w → w < 9007199254740992 → 53 ≤ s → (0 + (s - 53) * 4503599627370496 + w) / 4503599627370496 ≡ s - 52
      go w s p q h = omega arith

  large-S : T (not (lt (fin false (suc m) e) (fin false 1 (negsuc 125)))) → 949 ≤ S
  large-S h = Nat.lt_of_not-le (λ (g : S ≤ 948). clash v (2 ^ 948) (lt_of_lt_of_le (size-lt v) (pow_mono g)) (v-large h))
    where
      clash : (a b : ℕ) → a < b → b ≤ a → ⊥
      clash a b p q = Nat.lt_irrefl a (lt_of_lt_of_le p q)

  pub spot-large : T (not (lt (fin false (suc m) e) (fin false 1 (negsuc 125)))) → to_bits binary64 (fin false (suc m) e) / 4503599627370496 + 29 ≡ spot (fin false (suc m) e)
  spot-large h = ap (λ (x : ℕ). x + 29) (field_is (big S (large-S h))) ∙ go S (large-S h)
    where
      big : (s : ℕ) → 949 ≤ s → 53 ≤ s
      big s h = omega arith

      go : (s : ℕ) → 949 ≤ s → s - 52 + 29 ≡ max 926 (s - 23)
      go s h = omega arith

  -- ---- what the addition needs
  pub spot_in : T (lt (fin false (suc m) e) (fin false 1 (pos 128))) → (926 ≤ spot (fin false (suc m) e)) × (spot (fin false (suc m) e) < 2000)
  spot_in h = go S (size-le v 1202 (v_high h))
    where
      go : (s : ℕ) → s ≤ 1202 → (926 ≤ max 926 (s - 23)) × (max 926 (s - 23) < 2000)
      go s h = (omega arith, omega arith)

  pub spot-room : v < 2 ^ (spot (fin false (suc m) e) + 51)
  spot-room = lt_of_lt_of_le (size-lt v) (pow_mono (go S))
    where
      go : (s : ℕ) → s ≤ max 926 (s - 23) + 51
      go s = omega arith

  pub spot-digits : size (v / 2 ^ 925) - 24 ≡ spot (fin false (suc m) e) - 926
  spot-digits = ap (λ (x : ℕ). x - 24) (size-shr v 925) ∙ go S
    where
      go : (s : ℕ) → s - 925 - 24 ≡ max 926 (s - 23) - 926
      go s = omega arith

-- ---- `narrow`: its results fit, from 2 ^ 128 on it is an infinity, a sign goes through, and a zero stays
pub narrow-fits : (x : Float) → T (fits binary32 (narrow x))
unfolding narrow
narrow-fits nan = nan-fits binary32
narrow-fits (inf s) = inf-fits binary32 s
narrow-fits (fin s m e) = round-fits binary32 s (m * up e) (down e)

inf-top : (r : Float) → T (le (inf false) r) → inf false ≡ r
unfolding le
inf-top nan h = absurd h
inf-top (inf true) h = absurd h
inf-top (inf false) h = refl
inf-top (fin s m e) h = absurd h

pub narrow-huge : (a : Float) → T (lt (w64 0) a) → T (not (lt a (fin false 1 (pos 128)))) → inf false ≡ narrow a
unfolding lt of_int narrow
narrow-huge nan p q = absurd p
narrow-huge (inf true) p q = absurd p
narrow-huge (inf false) p q = refl
narrow-huge (fin true m e) p q = absurd p
narrow-huge (fin false m e) p q =
    inf-top (round binary32 false (m * up e) (down e))
    (subst (λ (z : Float). T (le z (round binary32 false (m * up e) (down e)))) at_top
    (round_mono binary32 (2 ^ 128) 1 (m * up e) (down e) (zero-lt-suc 0) (down_pos e) (go (m * up e) (down e) (2 ^ 128) (nltb→le (m * up e * 1) (2 ^ 128 * down e) q))))
  where
    at_top : round binary32 false (2 ^ 128) 1 ≡ inf false
    at_top = unfold round in refl

    go : (x d B : ℕ) → B * d ≤ x * 1 → B * d ≤ x * 1
    go x d B h = h

not-not : (s : Bool) → not (not s) ≡ s
not-not true = refl
not-not false = refl

pub narrow-neg : (x : Float) → neg (narrow (neg x)) ≡ narrow x
unfolding narrow neg
narrow-neg nan = refl
narrow-neg (inf s) = ap inf (not-not s)
narrow-neg (fin s m e) = sym (round-neg binary32 (not s) (m * up e) (down e)) ∙ ap (λ (t : Bool). round binary32 t (m * up e) (down e)) (not-not s)

zero-narrow : (s : Bool) → T (fits binary32 (fin s 0 (pos 0)) && not (is_nan (fin s 0 (pos 0)))) × (fin s 0 (pos 0) ≡ narrow (fin s 0 (pos 0)))
unfolding fits is_nan narrow round
zero-narrow true = (tt, refl)
zero-narrow false = (tt, refl)

pub narrow-zero : (x : Float) → T (fits binary64 x) → T (not (lt (w64 0) x)) → T (not (lt x (w64 0))) → T (not (is_nan x)) → T (fits binary32 x && not (is_nan x)) × (x ≡ narrow x)
unfolding lt of_int
narrow-zero nan F p q n = absurd (unfold is_nan in n)
narrow-zero (inf true) F p q n = absurd q
narrow-zero (inf false) F p q n = absurd p
narrow-zero (fin s zero e) F p q n = subst (λ (z : ℤ). T (fits binary32 (fin s 0 z) && not (is_nan (fin s 0 z))) × (fin s 0 z ≡ narrow (fin s 0 z))) (sym (zero_exp binary64 s e F)) (zero-narrow s)
narrow-zero (fin false (suc m) e) F p q n = absurd (some (suc m * up e) (down e) (mul-pos (zero-lt-suc m) (up_pos e)) (nltb→le (0 * down e) (suc m * up e * 1) p))
  where
    some : (a d : ℕ) → 0 < a → a * 1 ≤ 0 * d → ⊥
    some a d h k = omega arith
narrow-zero (fin true (suc m) e) F p q n = absurd (some (suc m * up e) (down e) (mul-pos (zero-lt-suc m) (up_pos e)) (nltb→le 0 (suc m * up e * 1 + 0 * down e) q))
  where
    some : (a d : ℕ) → 0 < a → a * 1 + 0 * d ≤ 0 → ⊥
    some a d h k = omega arith

-- ---- for the functions' proofs
pub rounds-to : (a : Float) → T (fits binary64 a) → T (lt (w64 0) a) → T (lt a (fin false 1 (pos 128)))
    → narrow a ≡ cond (lt (sub binary64 (add binary64 a (power (minus (spot a) 1023))) (power (minus (spot a) 1023))) (fin false 1 (pos 128))) (sub binary64 (add binary64 a (power (minus (spot a) 1023))) (power (minus (spot a) 1023))) (inf false)
rounds-to a F p q = go a (is_plain a p q) F q
  where
    go : (a : Float) → Plain a → T (fits binary64 a) → T (lt a (fin false 1 (pos 128)))
        → narrow a ≡ cond (lt (sub binary64 (add binary64 a (power (minus (spot a) 1023))) (power (minus (spot a) 1023))) (fin false 1 (pos 128))) (sub binary64 (add binary64 a (power (minus (spot a) 1023))) (power (minus (spot a) 1023))) (inf false)
    go a (plain m e) F q = narrow-is (fin false (suc m) e) (units_at (fin false (suc m) e)) (spot (fin false (suc m) e)) (spot_in m e F q).0 (spot_in m e F q).1 (v-units m e F) (spot-room m e F) (spot-digits m e F)

pub field-low : (a : Float) → T (fits binary64 a) → T (lt (w64 0) a) → T (lt a (fin false 1 (pos 128))) → T (lt a (fin false 1 (negsuc 125))) → 926 ≡ spot a
field-low a F p q h = go a (is_plain a p q) F h
  where
    go : (a : Float) → Plain a → T (fits binary64 a) → T (lt a (fin false 1 (negsuc 125))) → 926 ≡ spot a
    go a (plain m e) F h = spot-small m e F h

pub field-high : (a : Float) → T (fits binary64 a) → T (lt (w64 0) a) → T (lt a (fin false 1 (pos 128))) → T (not (lt a (fin false 1 (negsuc 125)))) → to_bits binary64 a / 4503599627370496 + 29 ≡ spot a
field-high a F p q h = go a (is_plain a p q) F h
  where
    go : (a : Float) → Plain a → T (fits binary64 a) → T (not (lt a (fin false 1 (negsuc 125)))) → to_bits binary64 a / 4503599627370496 + 29 ≡ spot a
    go a (plain m e) F h = spot-large m e F h

pub field_in : (a : Float) → T (fits binary64 a) → T (lt (w64 0) a) → T (lt a (fin false 1 (pos 128))) → (0 < spot a) × (spot a < 2000)
field_in a F p q = go a (is_plain a p q) F q
  where
    go : (a : Float) → Plain a → T (fits binary64 a) → T (lt a (fin false 1 (pos 128))) → (0 < spot a) × (spot a < 2000)
    go a (plain m e) F q = (lt_of_lt_of_le (zero-lt-suc 925) (spot_in m e F q).0, (spot_in m e F q).1)
