-- The whole number closest to a fraction n / u: no other is nearer, and where another is as near this one is even and that one odd.
-- Assumes nothing.
use mathlib.Core.Path.{◌≡◌, refl, sym, ap, ◌∙◌, subst}
use mathlib.Core.Logic.{◌⊎◌, inl, inr}
use Prim.Native.Nat.{ℕ, zero, suc, ◌+◌, ◌*◌, ◌/◌, ◌%◌, ◌≤◌, ◌<◌, compare, Ordering}
use native.Mathlib.Nat.{le_of_lt, le_of_eq, mul-le-mul_right, div-add-mod', mod-lt}
use native.Mathlib.Omega.{arith}
use mathlib.Core.Bool.{Bool, true, false, not}
use lib.Dec.{T, is_le, compare_is_eq, eqb, ltb, leb→le, nleb→lt, ltb→lt, nltb→le, eqb→eq, eqb_refl}
use lib.Arith.{lt_of_le-ne}
use lib.Ieee.{nearest}
use lib.Ieee.Nearest.{closest}
use Rattle.rounding.specs.Rounding.{dist}

abbrev Cmp : Ordering → ℕ → ℕ → Type 0
Cmp Ordering.lt a b = a < b
Cmp Ordering.eq a b = a ≡ b
Cmp Ordering.gt a b = b < a

cmp : (a b : ℕ) → Cmp (compare a b) a b
cmp a b = go (compare a b) (leb→le a b) (nleb→lt a b) (eqb→eq a b) (λ (e : a ≡ b). subst (λ (x : ℕ). T (eqb a x)) e (eqb_refl a))
  where
    go : (o : Ordering) → (T (is_le o) → a ≤ b) → (T (not (is_le o)) → b < a) → (T (compare_is_eq o) → a ≡ b) → (a ≡ b → T (compare_is_eq o)) → Cmp o a b
    go Ordering.lt h k e n = lt_of_le-ne (h tt) n
    go Ordering.eq h k e n = e tt
    go Ordering.gt h k e n = k tt

-- ---- q is w or the next number, by where 2 t stands to u
data Near (w t u q : ℕ) : Type 0 where
  stays : q ≡ w → t * 2 ≤ u → (t * 2 ≡ u → w % 2 ≡ 0) → Near w t u q
  moves : q ≡ suc w → u ≤ t * 2 → (t * 2 ≡ u → w % 2 ≡ 1) → Near w t u q

near : (w t u : ℕ) (o : Ordering) → Cmp o (t * 2) u → Near w t u (nearest w o)
near w t u Ordering.lt h = stays refl (le_of_lt h) (λ e. absurd (clash e))
  where
    clash : t * 2 ≡ u → ⊥
    clash e = omega arith
near w t u Ordering.eq h = go (w % 2) refl
  where
    go : (b : ℕ) → w % 2 ≡ b → Near w t u (w + w % 2)
    go zero e = stays (omega arith) (omega arith) (λ x. e)
    go (suc b) e = moves (omega arith) (omega arith) (λ x. omega arith)
near w t u Ordering.gt h = moves refl (le_of_lt h) (λ e. absurd (clash e))
  where
    clash : t * 2 ≡ u → ⊥
    clash e = omega arith

-- ---- another number r against w
data Place (r w : ℕ) : Type 0 where
  under : suc r ≤ w → Place r w
  at : r ≡ w → Place r w
  next : r ≡ suc w → Place r w
  over : suc (suc w) ≤ r → Place r w

place : (r w : ℕ) → Place r w
place r w = go (ltb r w) (ltb (suc w) r) (eqb r w) (ltb→lt r w) (nltb→le r w) (ltb→lt (suc w) r) (nltb→le (suc w) r) (eqb→eq r w)
    (λ e. subst (λ (x : ℕ). T (eqb r x)) e (eqb_refl r))
  where
    go : (a b c : Bool) → (T a → r < w) → (T (not a) → w ≤ r) → (T b → suc w < r) → (T (not b) → r ≤ suc w) → (T c → r ≡ w)
        → (r ≡ w → T c) → Place r w
    go true b c f g h i j k = under (f tt)
    go false true c f g h i j k = over (h tt)
    go false false true f g h i j k = at (j tt)
    go false false false f g h i j k = next (last r w (g tt) (i tt) k)
      where
        last : (r w : ℕ) → w ≤ r → r ≤ suc w → (r ≡ w → ⊥) → r ≡ suc w
        last r w a b n = omega arith

module _ (n u w t : ℕ) (is : n ≡ w * u + t) (T : t < u) where
  side : (r : ℕ) → Place r w → (r * u ≤ w * u) ⊎ (w * u + u ≤ r * u)
  side r (under l) = inl (mul-le-mul_right u (le_of_lt l))
  side r (at l) = inl (le_of_eq (ap (λ (x : ℕ). x * u) l))
  side r (next l) = inr (omega (arith, ap (λ (x : ℕ). x * u) l))
  side r (over l) = inr (omega (arith, mul-le-mul_right u l))

  least : (q r : ℕ) → Near w t u q → dist n (q * u) ≤ dist n (r * u)
  least q r (stays e h k) = let g = ap (λ (x : ℕ). x * u) e in elim (side r (place r w)) [ inl l ↦ omega arith | inr l ↦ omega arith ]
  least q r (moves e h k) = let g = ap (λ (x : ℕ). x * u) e in elim (side r (place r w)) [ inl l ↦ omega arith | inr l ↦ omega arith ]

  level : (q r : ℕ) → Near w t u q → (r ≡ q → ⊥) → dist n (r * u) ≡ dist n (q * u) → (q % 2 ≡ 0) × (r % 2 ≡ 1)
  level q r (stays e h k) ne d = go (place r w)
    where
      half : r ≡ suc w → t * 2 ≡ u
      half l = omega (arith, ap (λ (x : ℕ). x * u) l, ap (λ (x : ℕ). x * u) e)

      no : suc r ≤ w → ⊥
      no l = omega (arith, mul-le-mul_right u l, ap (λ (x : ℕ). x * u) e)

      no' : suc (suc w) ≤ r → ⊥
      no' l = omega (arith, mul-le-mul_right u l, ap (λ (x : ℕ). x * u) e)

      go : Place r w → (q % 2 ≡ 0) × (r % 2 ≡ 1)
      go (under l) = absurd (no l)
      go (at l) = absurd (ne (l ∙ sym e))
      go (next l) = (ap (λ (x : ℕ). x % 2) e ∙ k (half l), omega (arith, k (half l)))
      go (over l) = absurd (no' l)
  level q r (moves e h k) ne d = go (place r w)
    where
      half : r ≡ w → t * 2 ≡ u
      half l = omega (arith, ap (λ (x : ℕ). x * u) l, ap (λ (x : ℕ). x * u) e)

      no : suc r ≤ w → ⊥
      no l = omega (arith, mul-le-mul_right u l, ap (λ (x : ℕ). x * u) e)

      no' : suc (suc w) ≤ r → ⊥
      no' l = omega (arith, mul-le-mul_right u l, ap (λ (x : ℕ). x * u) e)

      go : Place r w → (q % 2 ≡ 0) × (r % 2 ≡ 1)
      go (under l) = absurd (no l)
      go (at l) = (omega (arith, k (half l)), ap (λ (x : ℕ). x % 2) l ∙ k (half l))
      go (next l) = absurd (ne (l ∙ sym e))
      go (over l) = absurd (no' l)

pub closest-least : (n u r : ℕ) → 0 < u → dist n (closest n u * u) ≤ dist n (r * u)
closest-least n u r U = least n u (n / u) (n % u) (sym (div-add-mod' n u)) (mod-lt n U) (closest n u) r
    (near (n / u) (n % u) u (compare (n % u * 2) u) (cmp (n % u * 2) u))

pub closest-tie : (n u r : ℕ) → 0 < u → (r ≡ closest n u → ⊥) → dist n (r * u) ≡ dist n (closest n u * u)
    → (closest n u % 2 ≡ 0) × (r % 2 ≡ 1)
closest-tie n u r U ne d = level n u (n / u) (n % u) (sym (div-add-mod' n u)) (mod-lt n U) (closest n u) r
    (near (n / u) (n % u) u (compare (n % u * 2) u) (cmp (n % u * 2) u)) ne d
