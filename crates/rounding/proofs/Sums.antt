-- The kit's sum of two signed fractions over one denominator is their exact sum, with the sign that specs/Rounding gives it, rounded once.
-- Assumes nothing.
use mathlib.Core.Path.{◌≡◌, refl, sym}
use Prim.Native.Nat.{ℕ, ◌+◌, ◌-◌, ◌≤◌, ◌<◌}
use native.Mathlib.Omega.{arith}
use mathlib.Core.Bool.{Bool, true, false, not, ◌&&◌, cond}
use lib.Dec.{T, ltb, ltb→lt, nltb→le}
use lib.Ieee.{Format, round, sum}
use Rattle.rounding.specs.Rounding.{dist, sign_of, positive_part, negative_part}

-- ---- the sign of a - b
pub clash : (a b : ℕ) → a < b → b ≤ a → ⊥
clash a b h k = omega arith

sign-plus : (a b : ℕ) (z : Bool) → b ≤ a → (a ≤ b → z ≡ false) → sign_of a b z ≡ false
sign-plus a b z h g = go (ltb b a) (ltb a b) (nltb→le b a) (ltb→lt a b)
  where
    go : (x y : Bool) → (T (not x) → a ≤ b) → (T y → a < b) → cond x false (cond y true z) ≡ false
    go true y i k = refl
    go false true i k = absurd (clash a b (k tt) h)
    go false false i k = g (i tt)

sign-minus : (a b : ℕ) (z : Bool) → a ≤ b → (b ≤ a → z ≡ true) → sign_of a b z ≡ true
sign-minus a b z h g = go (ltb b a) (ltb a b) (ltb→lt b a) (nltb→le a b)
  where
    go : (x y : Bool) → (T x → b < a) → (T (not y) → b ≤ a) → cond x false (cond y true z) ≡ true
    go true y i k = absurd (clash b a (i tt) h)
    go false true i k = refl
    go false false i k = g (k tt)

-- ---- a sum in the kit's form: of one sign, and of two
module _ (f : Format) (a b c p n : ℕ) where
  same : (s t : Bool) (x y : ℕ) → s ≡ t → x ≡ y → round f s x c ≡ round f t y c
  same s t x y e g = λ i. round f (e i) (g i) c

  both-plus : p ≡ a + b → n ≡ 0 → round f false (a + b) c ≡ round f (sign_of p n false) (dist p n) c
  both-plus h k = same false (sign_of p n false) (a + b) (dist p n) (sym (sign-plus p n false (omega arith) (λ g. refl))) (omega arith)

  both-minus : p ≡ 0 → n ≡ a + b → round f true (a + b) c ≡ round f (sign_of p n true) (dist p n) c
  both-minus h k = same true (sign_of p n true) (a + b) (dist p n) (sym (sign-minus p n true (omega arith) (λ g. refl))) (omega arith)

  plus-minus : p ≡ a → n ≡ b → cond (ltb a b) (round f true (b - a) c) (round f false (a - b) c) ≡ round f (sign_of p n false) (dist p n) c
  plus-minus h k = go (ltb a b) (ltb→lt a b) (nltb→le a b)
    where
      go : (x : Bool) → (T x → a < b) → (T (not x) → b ≤ a)
          → cond x (round f true (b - a) c) (round f false (a - b) c) ≡ round f (sign_of p n false) (dist p n) c
      go true i j =
          let l = i tt in
          same true (sign_of p n false) (b - a) (dist p n)
          (sym (sign-minus p n false (omega arith) (λ g. absurd (clash p n (omega arith) g)))) (omega arith)
      go false i j =
          let l = j tt in
          same false (sign_of p n false) (a - b) (dist p n) (sym (sign-plus p n false (omega arith) (λ g. refl))) (omega arith)

  minus_plus : p ≡ b → n ≡ a → cond (ltb a b) (round f false (b - a) c) (round f (ltb b a) (a - b) c) ≡ round f (sign_of p n false)
      (dist p n) c
  minus_plus h k = go (ltb a b) (ltb b a) (ltb→lt a b) (nltb→le a b) (ltb→lt b a) (nltb→le b a)
    where
      go : (x y : Bool) → (T x → a < b) → (T (not x) → b ≤ a) → (T y → b < a) → (T (not y) → a ≤ b)
          → cond x (round f false (b - a) c) (round f y (a - b) c) ≡ round f (sign_of p n false) (dist p n) c
      go true y i j u v =
          let l = i tt in
          same false (sign_of p n false) (b - a) (dist p n) (sym (sign-plus p n false (omega arith) (λ g. refl))) (omega arith)
      go false true i j u v =
          let l = u tt in
          same true (sign_of p n false) (a - b) (dist p n)
          (sym (sign-minus p n false (omega arith) (λ g. absurd (clash p n (omega arith) g)))) (omega arith)
      go false false i j u v =
          let l = v tt in
          let m = j tt in
          same false (sign_of p n false) (a - b) (dist p n) (sym (sign-plus p n false (omega arith) (λ g. refl))) (omega arith)

pub sum_is : (f : Format) (s : Bool) (a : ℕ) (t : Bool) (b c : ℕ)
    → sum f s a t b c ≡ round f (sign_of (positive_part s a + positive_part t b) (negative_part s a + negative_part t b) (s && t))
    (dist (positive_part s a + positive_part t b) (negative_part s a + negative_part t b)) c
unfolding sum
sum_is f false a false b c = both-plus f a b c (a + b) (0 + 0) refl (omega arith)
sum_is f false a true b c = plus-minus f a b c (a + 0) (0 + b) (omega arith) (omega arith)
sum_is f true a false b c = minus_plus f a b c (0 + b) (a + 0) (omega arith) (omega arith)
sum_is f true a true b c = both-minus f a b c (0 + 0) (a + b) (omega arith) refl
