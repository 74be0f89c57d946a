-- What the kit's `round` keeps of a fraction n / d, in units of the format's smallest magnitude: q * 2 ^ k units, where k digits are
-- dropped. No number of p digits is nearer, one that is as near
-- is an odd multiple of 2 ^ k beside an even q, and below the standard's bound the result does not overflow. Assumes nothing.
use mathlib.Core.Path.{◌≡◌, refl, sym, ap, ◌∙◌, subst}
use mathlib.Core.Logic.{◌⊎◌, inl, inr}
use Prim.Native.Nat.{ℕ, suc, ◌+◌, ◌-◌, ◌*◌, ◌/◌, ◌%◌, ◌^◌, ◌≤◌, ◌<◌, compare}
use native.Mathlib.Nat.{
  le_refl,
  zero-lt-suc,
  eq-zero-or-pos,
  mul-mod_left,
  pow-succ',
  le_trans,
  le_of_eq,
  lt_of_lt_of_le,
  lt_of_le_of_lt,
  lt_of_not-le,
  not-le_of_lt,
  eq-or-lt_of_le,
  mul_assoc,
  mul-pos,
  mul-le-mul_right,
  mul-lt-mul_of_pos_right,
  le-div_iff_mul-le,
  div-mul-le_self,
  div-div-eq-div-mul,
  pow-suc,
}
use native.Mathlib.Omega.{arith}
use mathlib.Core.Bool.{Bool, true, false, not}
use lib.Dec.{T, leb, leb→le, nleb→lt}
use lib.Pow.{pow-add, pow_pos, pow_mono, pow-lt, pow-sub-lt}
use lib.Ieee.{size}
use lib.Ieee.Digits.{size_reaches}
use lib.Ieee.Fits.{kept-lt, nearest-le}
use lib.Ieee.Nearest.{closest, nearest-ge}
use lib.Ieee.Order.{drop}
use Rattle.rounding.specs.Rounding.{dist}
use Rattle.rounding.proofs.Closest.{closest-least, closest-tie}

pub pow_lt_back : (a b : ℕ) → 2 ^ a < 2 ^ b → a < b
pow_lt_back a b h = lt_of_not-le (λ (g : b ≤ a). not-le_of_lt h (pow_mono g))

-- ---- n / d in units, with k digits dropped and the number q kept: `round` as the kit has it
module _ (p n d : ℕ) (P : 2 ≤ p) (D : 0 < d) where
  unfoldable pub k : ℕ
  k = drop p n d

  unfoldable pub u : ℕ
  unfolding k
  u = d * 2 ^ k

  unfoldable pub q : ℕ
  unfolding u
  q = closest n u

  U : 0 < u
  unfolding u
  U = mul-pos D (pow_pos k)

  q-le : q ≤ 2 ^ p
  unfolding q u k
  q-le = le_trans (nearest-le (n / u) (compare (n % u * 2) u))
      (subst (λ (x : ℕ). x < 2 ^ p) (div-div-eq-div-mul n d (2 ^ k)) (kept-lt p (n / d)))

  -- where digits are dropped the fraction has all p
  full : 0 < k → 2 ^ (p - 1) * u ≤ n
  unfolding u k
  full K =
      le_trans (mul-le-mul_right (d * 2 ^ k) ((le-div_iff_mul-le (pow_pos k)).1 reached))
      (subst (λ (x : ℕ). x * (d * 2 ^ k) ≤ n) (sym (div-div-eq-div-mul n d (2 ^ k))) (div-mul-le_self n (d * 2 ^ k)))
    where
      room : (z p : ℕ) → 2 ≤ p → 0 < z - p → p - 1 + (z - p) < z
      room z p P K = omega arith

      reached : 2 ^ (p - 1) * 2 ^ k ≤ n / d
      reached = le_trans (le_of_eq (sym (pow-add 2 (p - 1) k))) (size_reaches (n / d) (p - 1 + k) (room (size (n / d)) p P K))

  -- ---- another number c * 2 ^ j of p digits is a multiple of 2 ^ k, or below all that is kept
  pub data Spot (c w : ℕ) : Type 0 where
    on : (r : ℕ) → w * d ≡ r * u → w ≡ r * 2 ^ k → (c % 2 ≡ 0 → r % 2 ≡ 0) → Spot c w
    short : w * d < 2 ^ (p - 1) * u → 2 ^ (p - 1) * u ≤ n → Spot c w

  pub spot : (c j : ℕ) → c < 2 ^ p → Spot c (c * 2 ^ j)
  unfolding u
  spot c j h = go (leb k j) (leb→le k j) (nleb→lt k j)
    where
      back : (j k : ℕ) → k ≤ j → j ≡ j - k + k
      back j k l = omega arith

      room : (p j k : ℕ) → 2 ≤ p → j < k → p + j ≤ p - 1 + k
      room p j k P l = omega arith

      apart : k ≤ j → c * 2 ^ j ≡ c * 2 ^ (j - k) * 2 ^ k
      apart l = ap (λ (x : ℕ). c * 2 ^ x) (back j k l) ∙ ap (λ (x : ℕ). c * x) (pow-add 2 (j - k) k)
          ∙ sym (mul_assoc c (2 ^ (j - k)) (2 ^ k))

      times : (w r x d : ℕ) → w ≡ r * x → w * d ≡ r * (d * x)
      times w r x d e = omega (arith, ap (λ (z : ℕ). z * d) e)

      less : j < k → c * 2 ^ j * d < 2 ^ (p - 1) * u
      less l =
          let s : c * 2 ^ j < 2 ^ (p - 1) * 2 ^ k =
          lt_of_lt_of_le (mul-lt-mul_of_pos_right h (pow_pos j))
          (le_trans (le_of_eq (sym (pow-add 2 p j))) (le_trans (pow_mono (room p j k P l)) (le_of_eq (pow-add 2 (p - 1) k)))) in
          turn (c * 2 ^ j) (2 ^ (p - 1)) (2 ^ k) (mul-lt-mul_of_pos_right s D)
        where
          turn : (a b x : ℕ) → a * d < b * x * d → a * d < b * (d * x)
          turn a b x h = omega arith

      even : (c x : ℕ) → c % 2 ≡ 0 → c * x % 2 ≡ 0
      even c x e = omega (arith, ap (λ (z : ℕ). z * x) (halves c e))
        where
          halves : (c : ℕ) → c % 2 ≡ 0 → c ≡ 2 * (c / 2)
          halves c e = omega arith

      pos : (j k : ℕ) → j < k → 0 < k
      pos j k l = omega arith

      go : (b : Bool) → (T b → k ≤ j) → (T (not b) → j < k) → Spot c (c * 2 ^ j)
      go true f g = on (c * 2 ^ (j - k)) (times (c * 2 ^ j) (c * 2 ^ (j - k)) (2 ^ k) d (apart (f tt))) (apart (f tt))
          (even c (2 ^ (j - k)))
      go false f g = short (less (g tt)) (full (pos j k (g tt)))

  -- ---- what is kept, and its distance
  unfoldable pub v : ℕ
  unfolding q k
  v = q * 2 ^ k

  v-at : v * d ≡ q * u
  unfolding v u
  v-at = turn q (2 ^ k)
    where
      turn : (q x : ℕ) → q * x * d ≡ q * (d * x)
      turn q x = omega arith

  pub nearer : (c w : ℕ) → Spot c w → dist n (v * d) ≤ dist n (w * d)
  nearer c w (on r e i o) = rw (v-at, e) (unfold q in closest-least n u r U)
  nearer c w (short h l) = rw v-at (go (2 ^ (p - 1) * u) (q * u) (w * d) (unfold q in closest-least n u (2 ^ (p - 1)) U) h l)
    where
      go : (x y z : ℕ) → dist n y ≤ dist n x → z < x → x ≤ n → dist n y ≤ dist n z
      go x y z h g l = omega arith

  -- what is as near is an odd neighbour of an even q
  pub data Level (c w : ℕ) : Type 0 where
    neighbour : q % 2 ≡ 0 → (c % 2 ≡ 0 → ⊥) → Level c w

  is-v : (r : ℕ) → r ≡ q → v ≡ r * 2 ^ k
  unfolding v
  is-v r z = ap (λ (x : ℕ). x * 2 ^ k) (sym z)

  at-tie : (r : ℕ) → (r ≡ q → ⊥) → dist n (r * u) ≡ dist n (q * u) → (q % 2 ≡ 0) × (r % 2 ≡ 1)
  unfolding q
  at-tie r = closest-tie n u r U

  pub levels : (c w : ℕ) → Spot c w → (w ≡ v → ⊥) → dist n (w * d) ≡ dist n (v * d) → Level c w
  levels c w (on r e i o) ne h =
      let t = at-tie r (λ (z : r ≡ q). ne (i ∙ sym (is-v r z))) (sym (ap (λ (x : ℕ). dist n x) e) ∙ h ∙ ap (λ (x : ℕ). dist n x) v-at) in
      neighbour t.0 (λ z. clash r t.1 (o z))
    where
      clash : (r : ℕ) → r % 2 ≡ 1 → r % 2 ≡ 0 → ⊥
      clash r a b = omega arith
  levels c w (short h l) ne e = absurd
      (go (2 ^ (p - 1) * u) (q * u) (w * d) (unfold q in closest-least n u (2 ^ (p - 1)) U) h l (e ∙ ap (λ (x : ℕ). dist n x) v-at))
    where
      go : (x y z : ℕ) → dist n y ≤ dist n x → z < x → x ≤ n → dist n z ≡ dist n y → ⊥
      go x y z h g l e = omega arith

  -- ---- v, written with p digits; B bounds the exponents
  pub data Canon (B : ℕ) : Type 0 where
    canon : (c j : ℕ) → c < 2 ^ p → j < B → v ≡ c * 2 ^ j → (j ≡ 0) ⊎ (2 ^ (p - 1) ≤ c) → (q % 2 ≡ 0 → c % 2 ≡ 0) → Canon B

  kept_full : 0 < k → 2 ^ (p - 1) ≤ q
  unfolding q
  kept_full K = le_trans ((le-div_iff_mul-le U).1 (full K)) (nearest-ge (n / u) (compare (n % u * 2) u))

  pub canonical : (B : ℕ) → 0 < B → v < 2 ^ (p - 1 + B) → Canon B
  unfolding v
  canonical B H h = go (eq-or-lt_of_le q-le) (eq-zero-or-pos k)
    where
      even : (p : ℕ) → 2 ≤ p → (x : ℕ) → x ≡ suc (p - 2) → 2 ^ x % 2 ≡ 0
      even p P x e = ap (λ (z : ℕ). 2 ^ z % 2) e ∙ ap (λ (z : ℕ). z % 2) (pow-suc 2 (p - 2)) ∙ mul-mod_left (2 ^ (p - 2)) 2

      pred : (p : ℕ) → 2 ≤ p → p - 1 ≡ suc (p - 2)
      pred p P = omega arith

      split : (p x : ℕ) → 2 ≤ p → p + x ≡ p - 1 + suc x
      split p x P = omega arith

      under : (x y z : ℕ) → x + y < x + z → y < z
      under x y z h = omega arith

      less : (p : ℕ) → 2 ≤ p → p - 1 < p
      less p P = omega arith

      go : (q ≡ 2 ^ p) ⊎ (q < 2 ^ p) → (k ≡ 0) ⊎ (0 < k) → Canon B
      go (inl e) z =
          let i : q * 2 ^ k ≡ 2 ^ (p - 1) * 2 ^ suc k = ap (λ (x : ℕ). x * 2 ^ k) e ∙ sym (pow-add 2 p k)
          ∙ ap (λ (x : ℕ). 2 ^ x) (split p k P) ∙ pow-add 2 (p - 1) (suc k) in
          canon (2 ^ (p - 1)) (suc k) (pow-lt (less p P))
          (under (p - 1) (suc k) B (pow_lt_back (p - 1 + suc k) (p - 1 + B)
          (subst (λ (x : ℕ). x < 2 ^ (p - 1 + B)) (i ∙ sym (pow-add 2 (p - 1) (suc k))) h)))
          i (inr (le_refl (2 ^ (p - 1)))) (λ o. even p P (p - 1) (pred p P))
      go (inr l) (inl z) = canon q k l (subst (λ (x : ℕ). x < B) (sym z) H) refl (inl z) (λ o. o)
      go (inr l) (inr K) =
          canon q k l
          (under (p - 1) k B (pow_lt_back (p - 1 + k) (p - 1 + B)
          (lt_of_le_of_lt (le_trans (le_of_eq (pow-add 2 (p - 1) k)) (mul-le-mul_right (2 ^ k) (kept_full K))) h)))
          refl (inr (kept_full K)) (λ o. o)

  -- ---- below 2 ^ h (2 ^ (p + 1) - 1), halfway from the largest number under 2 ^ (p + 1 + h) to it, v stays under it: that number is
  -- nearer
  pub not-over : (h : ℕ) → n < 2 ^ h * (2 ^ suc p - 1) * d → v < 2 ^ (p + suc h)
  not-over h l =
      lt_of_not-le (λ (g : 2 ^ (p + suc h) ≤ v).
      go (2 ^ p) (2 ^ h) (v * d) (pow_pos p) (mul-pos (pow_pos h) D)
      (subst (λ (x : ℕ). n < 2 ^ h * (x - 1) * d) (pow-succ' 2 p) l)
      (subst (λ (x : ℕ). 2 ^ p * x * d ≤ v * d) (pow-succ' 2 h)
      (subst (λ (x : ℕ). x * d ≤ v * d) (pow-add 2 p (suc h)) (mul-le-mul_right d g)))
      (subst (λ (x : ℕ). dist n (v * d) ≤ dist n ((2 ^ p - 1) * x * d)) (pow-succ' 2 h)
      (nearer (2 ^ p - 1) ((2 ^ p - 1) * 2 ^ suc h) (spot (2 ^ p - 1) (suc h) (pow-sub-lt p (zero-lt-suc 0))))))
    where
      one_less : (X : ℕ) → 0 < X → suc (X - 1) ≡ X
      one_less X h = omega arith

      turn : (x X Y : ℕ) → suc x ≡ X → x * (2 * Y) * d + 2 * (Y * d) ≡ X * (2 * Y) * d
      turn x X Y e = omega (arith, ap (λ (z : ℕ). z * (2 * Y) * d) e)

      turn' : (x X Y : ℕ) → suc x ≡ 2 * X → Y * x * d + Y * d ≡ X * (2 * Y) * d
      turn' x X Y e = omega (arith, ap (λ (z : ℕ). Y * z * d) e)

      last : (x a m b y : ℕ) → 0 < y → m + 2 * y ≡ a → b + y ≡ a → n < b → a ≤ x → dist n x ≤ dist n m → ⊥
      last x a m b y Z e i l g h = omega arith

      go : (X Y x : ℕ) → 0 < X → 0 < Y * d → n < Y * (2 * X - 1) * d → X * (2 * Y) * d ≤ x → dist n x ≤ dist n ((X - 1) * (2 * Y) * d) → ⊥
      go X Y x A Z l g h = last x (X * (2 * Y) * d) ((X - 1) * (2 * Y) * d) (Y * (2 * X - 1) * d) (Y * d) Z
          (turn (X - 1) X Y (one_less X A)) (turn' (2 * X - 1) X Y (one_less (2 * X) (omega arith))) l g h
