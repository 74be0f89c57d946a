-- `Rounds f z p n d`: z is the signed fraction (p - n) / d, rounded once to the format f. Each operation on finite values is such a rounding of its exact result,
-- and a larger fraction rounds to a value that is no smaller, whatever the signs. Assumes nothing.
use mathlib.Core.Path.{◌≡◌, refl, ap, ◌∙◌, subst}
use Prim.Native.Nat.{ℕ, zero, suc, ◌+◌, ◌-◌, ◌*◌, ◌/◌, ◌%◌, ◌^◌, ◌≤◌, ◌<◌, compare}
use native.Mathlib.Nat.{mul_comm, le_antisymm, add-sub_of_le, le_of_mul-le-mul_right, mul-le-mul_right, mul-pos}
use native.Mathlib.Omega.{arith}
use mathlib.Core.Bool.{Bool, true, false, not, cond}
use lib.Dec.{T, ltb, eqb, eqb→eq, ltb→lt, nltb→le}
use lib.IntN.{pos}
use lib.Ieee.{binary32, binary64, Float, nan, inf, fin, Format, prec, emax, low, up, down, size, nearest, le, neg, odd, units, round, sum, add, sub, mul, div, of_int}
use lib.Ieee.Fits.{up_pos}
use lib.Ieee.Order.{round_mono}
use lib.Ieee.Scale.{finite, round_same}
use lib.Ieee.Positive.{positive, den}
use Rattle.ieee.proofs.Value.{P, N, Under, le-neg, le_trans}

pub data Rounds (f : Format) (z : Float) (p n d : ℕ) : Type 0 where
  plus : n ≤ p → z ≡ round f false (p - n) d → Rounds f z p n d
  minus : p ≤ n → z ≡ round f true (n - p) d → Rounds f z p n d

pub plus-of : (f : Format) (z : Float) (p n d a : ℕ) → a + n ≡ p → z ≡ round f false a d → Rounds f z p n d
plus-of f z p n d a h e = plus (omega arith) (e ∙ ap (λ (x : ℕ). round f false x d) (omega arith))

pub minus-of : (f : Format) (z : Float) (p n d a : ℕ) → a + p ≡ n → z ≡ round f true a d → Rounds f z p n d
minus-of f z p n d a h e = minus (omega arith) (e ∙ ap (λ (x : ℕ). round f true x d) (omega arith))

-- ---- the sign of what is rounded goes through
odd-neg : (d : ℕ) (s : Bool) (q k l : ℕ) → odd d (not s) q k l ≡ neg (odd d s q k l)
unfolding odd neg
odd-neg d s zero k l = refl
odd-neg d s (suc q) k l = refl

units-neg : (f : Format) (s : Bool) (q k : ℕ) → units f (not s) q k ≡ neg (units f s q k)
unfolding units neg
units-neg f s q k = go (ltb (q * 2 ^ k) (2 ^ (low f + suc (emax f))))
  where
    go : (b : Bool) → cond b (odd (suc (prec f)) (not s) q k (low f)) (inf (not s)) ≡ neg (cond b (odd (suc (prec f)) s q k (low f)) (inf s))
    go true = odd-neg (suc (prec f)) s q k (low f)
    go false = refl

pub round-neg : (f : Format) (s : Bool) (a c : ℕ) → round f (not s) a c ≡ neg (round f s a c)
unfolding round
round-neg f s a c =
    let n = a * 2 ^ low f in
    let k = size (n / c) - prec f in
    let u = c * 2 ^ k in
    units-neg f s (nearest (n / u) (compare (n % u * 2) u)) k

round-mono-neg : (f : Format) (a b c d : ℕ) → 0 < b → 0 < d → a * d ≤ c * b → T (le (round f true c d) (round f true a b))
round-mono-neg f a b c d B D h =
    rw (round-neg f false c d, round-neg f false a b) (le-neg (round f false a b) (round f false c d) (round_mono f a b c d B D h))

zero-at : (f : Format) (s : Bool) → round f s 0 1 ≡ fin s 0 (pos 0)
unfolding round
zero-at binary32 s = refl
zero-at binary64 s = refl

pub round-zero : (f : Format) (s : Bool) (d : ℕ) → 0 < d → round f s 0 d ≡ fin s 0 (pos 0)
round-zero f s d D = round_same f s 0 d 0 1 D (omega arith) (omega arith) ∙ zero-at f s

zeros-level : (s t : Bool) → T (le (fin s 0 (pos 0)) (fin t 0 (pos 0)))
unfolding le
zeros-level true true = tt
zeros-level true false = tt
zeros-level false true = tt
zeros-level false false = tt

-- what is not above zero rounds to what is not above zero
round-signs : (f : Format) (a b c d : ℕ) → 0 < b → 0 < d → T (le (round f true a b) (round f false c d))
round-signs f a b c d B D =
    le_trans (round f true a b) (round f true 0 1) (round f false c d) (round-mono-neg f 0 1 a b (omega arith) B (omega arith))
    (le_trans (round f true 0 1) (round f false 0 1) (round f false c d) (rw (zero-at f true, zero-at f false) (zeros-level true false)) (round_mono f 0 1 c d (omega arith) D (omega arith)))

-- ---- a larger fraction rounds to a value that is no smaller
minus-le : (p n d q m c : ℕ) → n ≤ p → m ≤ q → p * c + m * d ≤ q * d + n * c → (p - n) * c ≤ (q - m) * d
minus-le p n d q m c a b h = go (p - n) (q - m) (add-sub_of_le a) (add-sub_of_le b)
  where
    go : (x y : ℕ) → n + x ≡ p → m + y ≡ q → x * c ≤ y * d
    go x y u v = omega (arith, h, ap (λ (z : ℕ). z * c) u, ap (λ (z : ℕ). z * d) v)

-- n ≤ p and q ≤ m: with Under p n d q m c both fractions are 0
both_zero : (p n d q m c : ℕ) → 0 < d → 0 < c → n ≤ p → q ≤ m → Under p n d q m c → (p - n ≡ 0) × (m - q ≡ 0)
both_zero p n d q m c D C a b h =
    let k : p ≤ n = le_of_mul-le-mul_right {k = c} (omega (arith, mul-le-mul_right d b)) C in
    let l : m ≤ q = le_of_mul-le-mul_right {k = d} (omega (arith, mul-le-mul_right c a)) D in
    (omega arith, omega arith)

pub rounds-mono : (f : Format) (z w : Float) (p n d q m c : ℕ) → 0 < d → 0 < c → Rounds f z p n d → Rounds f w q m c → Under p n d q m c → T (le z w)
rounds-mono f z w p n d q m c D C (plus a e) (plus b g) h = rw (e, g) (round_mono f (p - n) d (q - m) c D C (minus-le p n d q m c a b h))
rounds-mono f z w p n d q m c D C (plus a e) (minus b g) h =
    let k = both_zero p n d q m c D C a b h in
    rw (e, g, k.0, k.1, round-zero f false d D, round-zero f true c C) (zeros-level false true)
rounds-mono f z w p n d q m c D C (minus a e) (plus b g) h = rw (e, g) (round-signs f (n - p) d (q - m) c D C)
rounds-mono f z w p n d q m c D C (minus a e) (minus b g) h = rw (e, g) (round-mono-neg f (m - q) c (n - p) d C D (minus-le m q c n p d b a (omega arith)))

-- equal fractions round alike, but for a zero's sign; so from one fraction to another of the same size
pub rounds-same : (f : Format) (z : Float) (p n d q m c : ℕ) → 0 < d → 0 < c → p * c + m * d ≡ q * d + n * c → Rounds f z p n d → Rounds f z q m c
rounds-same f z p n d q m c D C h (plus a e) =
    let k : m ≤ q = le_of_mul-le-mul_right {k = d} (omega (arith, mul-le-mul_right c a)) D in
    plus k (e ∙ round_same f false (p - n) d (q - m) c D C (le_antisymm (minus-le p n d q m c a k (omega arith)) (minus-le q m c p n d k a (omega arith))))
rounds-same f z p n d q m c D C h (minus a e) =
    let k : q ≤ m = le_of_mul-le-mul_right {k = d} (omega (arith, mul-le-mul_right c a)) D in
    minus k (e ∙ round_same f true (n - p) d (m - q) c D C (le_antisymm (minus-le n p d m q c a k (omega arith)) (minus-le m q c n p d k a (omega arith))))

-- ---- the operations on finite values
abbrev pub Sum : Format → Float → Float → Float → Type 0
Sum f z x y = Rounds f z (P x * den y + P y * den x) (N x * den y + N y * den x) (den x * den y)

differ : (f : Format) (a b c p n : ℕ) (b? : Bool) → (T b? → a < b) → (T (not b?) → b ≤ a) → p + b ≡ n + a → Rounds f (cond b? (round f true (b - a) c) (round f false (a - b) c)) p n c
differ f a b c p n true h k e = minus-of f (round f true (b - a) c) p n c (b - a) (omega (arith, h tt)) refl
differ f a b c p n false h k e = plus-of f (round f false (a - b) c) p n c (a - b) (omega (arith, k tt)) refl

differ' : (f : Format) (a b c p n : ℕ) (b? s : Bool) → (T b? → a < b) → (T (not b?) → b ≤ a) → (T s → b < a) → (T (not s) → a ≤ b) → p + a ≡ n + b → Rounds f (cond b? (round f false (b - a) c) (round f s (a - b) c)) p n c
differ' f a b c p n true s h k u v e = plus-of f (round f false (b - a) c) p n c (b - a) (omega (arith, h tt)) refl
differ' f a b c p n false true h k u v e = minus-of f (round f true (a - b) c) p n c (a - b) (omega (arith, k tt)) refl
differ' f a b c p n false false h k u v e = plus-of f (round f false (a - b) c) p n c (a - b) (omega (arith, k tt, v tt)) refl

pub add_rounds : (f : Format) (x y : Float) → T (finite x) → T (finite y) → Sum f (add f x y) x y
unfolding add sum
add_rounds f nan y p q = absurd p
add_rounds f (inf s) y p q = absurd p
add_rounds f (fin s m e) nan p q = absurd q
add_rounds f (fin s m e) (inf t) p q = absurd q
add_rounds f (fin false m e) (fin false n d) p q = plus-of f _ _ _ _ (m * up e * down d + n * up d * down e) (omega arith) refl
add_rounds f (fin false m e) (fin true n d) p q =
    let a = m * up e * down d in
    let b = n * up d * down e in
    differ f a b (down e * down d) (a + 0 * down e) (0 * down d + b) (ltb a b) (ltb→lt a b) (nltb→le a b) (omega arith)
add_rounds f (fin true m e) (fin false n d) p q =
    let a = m * up e * down d in
    let b = n * up d * down e in
    differ' f a b (down e * down d) (0 * down d + b) (a + 0 * down e) (ltb a b) (ltb b a) (ltb→lt a b) (nltb→le a b) (ltb→lt b a) (nltb→le b a) (omega arith)
add_rounds f (fin true m e) (fin true n d) p q = minus-of f _ _ _ _ (m * up e * down d + n * up d * down e) (omega arith) refl

-- the negation of a finite value
pub neg-finite : (x : Float) → T (finite x) → T (finite (neg x))
unfolding neg
neg-finite nan p = p
neg-finite (inf s) p = p
neg-finite (fin s m e) p = p

pub neg-parts : (x : Float) → (P (neg x) ≡ N x) × (N (neg x) ≡ P x) × (den (neg x) ≡ den x)
unfolding neg
neg-parts nan = (refl, refl, refl)
neg-parts (inf s) = (refl, refl, refl)
neg-parts (fin true m e) = (refl, refl, refl)
neg-parts (fin false m e) = (refl, refl, refl)

abbrev pub Difference : Format → Float → Float → Float → Type 0
Difference f z x y = Rounds f z (P x * den y + N y * den x) (N x * den y + P y * den x) (den x * den y)

pub sub-rounds : (f : Format) (x y : Float) → T (finite x) → T (finite y) → Difference f (sub f x y) x y
unfolding sub
sub-rounds f x y p q =
    let k = neg-parts y in
    subst (λ (u : ℕ). Rounds f (add f x (neg y)) (P x * u + N y * den x) (N x * u + P y * den x) (den x * u)) k.2
    (subst (λ (u : ℕ). Rounds f (add f x (neg y)) (P x * den (neg y) + N y * den x) (N x * den (neg y) + u * den x) (den x * den (neg y))) k.1
    (subst (λ (u : ℕ). Rounds f (add f x (neg y)) (P x * den (neg y) + u * den x) (N x * den (neg y) + N (neg y) * den x) (den x * den (neg y))) k.0
    (add_rounds f x (neg y) p (neg-finite y q))))

abbrev pub Product : Format → Float → Float → Float → Type 0
Product f z x y = Rounds f z (P x * P y + N x * N y) (P x * N y + N x * P y) (den x * den y)

pub mul-rounds : (f : Format) (x y : Float) → T (finite x) → T (finite y) → Product f (mul f x y) x y
unfolding mul
mul-rounds f nan y p q = absurd p
mul-rounds f (inf s) y p q = absurd p
mul-rounds f (fin s m e) nan p q = absurd q
mul-rounds f (fin s m e) (inf t) p q = absurd q
mul-rounds f (fin false m e) (fin false n d) p q = plus-of f _ _ _ _ (m * up e * (n * up d)) (omega arith) refl
mul-rounds f (fin false m e) (fin true n d) p q = minus-of f _ _ _ _ (m * up e * (n * up d)) (omega arith) refl
mul-rounds f (fin true m e) (fin false n d) p q = minus-of f _ _ _ _ (m * up e * (n * up d)) (omega arith) refl
mul-rounds f (fin true m e) (fin true n d) p q = plus-of f _ _ _ _ (m * up e * (n * up d)) (omega arith) refl

-- by a value above zero
abbrev pub Quotient : Format → Float → Float → Float → Type 0
Quotient f z x y = Rounds f z (P x * den y) (N x * den y) (den x * P y)

pub P_pos : (y : Float) → T (positive y) → (0 < P y) × (N y ≡ 0) × T (finite y)
P_pos nan p = absurd p
P_pos (inf s) p = absurd p
P_pos (fin true m e) p = absurd p
P_pos (fin false m e) p = (mul-pos (ltb→lt 0 m p) (up_pos e), refl, tt)

not-zero : (f : Format) (n : ℕ) (x y z : Float) → 0 < n → cond (eqb n 0) x y ≡ y
not-zero f n x y z h = go (eqb n 0) (eqb→eq n 0)
  where
    go : (b : Bool) → (T b → n ≡ 0) → cond b x y ≡ y
    go true k = absurd (clash n h (k tt))
      where
        clash : (n : ℕ) → 0 < n → n ≡ 0 → ⊥
        clash n h e = omega arith
    go false k = refl

pub div-rounds : (f : Format) (x y : Float) → T (finite x) → T (positive y) → Quotient f (div f x y) x y
unfolding div
div-rounds f nan y p q = absurd p
div-rounds f (inf s) y p q = absurd p
div-rounds f (fin s m e) nan p q = absurd q
div-rounds f (fin s m e) (inf t) p q = absurd q
div-rounds f (fin s m e) (fin true n d) p q = absurd q
div-rounds f (fin false m e) (fin false n d) p q =
    plus-of f _ _ _ _ (m * up e * down d) (omega arith) (not-zero f n _ _ nan (ltb→lt 0 n q) ∙ ap (λ (c : ℕ). round f false (m * up e * down d) c) (mul_comm (n * up d) (down e)))
div-rounds f (fin true m e) (fin false n d) p q =
    minus-of f _ _ _ _ (m * up e * down d) (omega arith) (not-zero f n _ _ nan (ltb→lt 0 n q) ∙ ap (λ (c : ℕ). round f true (m * up e * down d) c) (mul_comm (n * up d) (down e)))

pub whole-rounds : (f : Format) (n : ℕ) → Rounds f (of_int f (pos n)) n 0 1
unfolding of_int
whole-rounds f n = plus-of f _ _ _ _ n (omega arith) refl
