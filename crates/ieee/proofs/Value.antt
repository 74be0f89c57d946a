-- A finite value as the signed fraction (`P` - `N`) / `den`, and the order of two finite values as one inequality of natural numbers. Assumes nothing.
use mathlib.Core.Path.{◌≡◌, refl, sym, ap, subst}
use mathlib.Core.Logic.{◌⊎◌, inl, inr}
use Prim.Native.Nat.{ℕ, ◌+◌, ◌*◌, ◌≤◌, ◌<◌}
use native.Mathlib.Nat.{eq-or-lt_of_le, le_of_mul-le-mul_right, mul-le-mul_right}
use native.Mathlib.Omega.{arith}
use mathlib.Core.Bool.{Bool, true, false, not, ◌&&◌, ◌||◌, beq}
use lib.Dec.{T, ltb, eqb, eqb→eq, eqb_refl, ltb→lt, lt→ltb, nltb→le}
use lib.IntN.{pos}
use lib.Ieee.{Float, nan, inf, fin, up, down, lt, eq, le, ne, neg, level, is_nan}
use lib.Ieee.Bits.{is_true}
use lib.Ieee.Fits.{and_l, and_r}
use lib.Ieee.Scale.{finite}
use lib.Ieee.Positive.{den, den_pos}

-- ---- the part above zero and the part below it, of which one is 0
abbrev pub part : Bool → ℕ → ℕ
part true a = a
part false a = 0

abbrev pub P : Float → ℕ
P nan = 0
P (inf s) = 0
P (fin s m e) = part (not s) (m * up e)

abbrev pub N : Float → ℕ
N nan = 0
N (inf s) = 0
N (fin s m e) = part s (m * up e)

-- (p - n) / d ≤ (q - m) / c
abbrev pub Under : (p n d q m c : ℕ) → Type 0
Under p n d q m c = p * c + m * d ≤ q * d + n * c

-- x ≤ y, of finite values
abbrev pub Le : Float → Float → Type 0
Le x y = Under (P x) (N x) (den x) (P y) (N y) (den y)

-- ---- tests
pub or_l : (x y : Bool) → T x → T (x || y)
or_l true y t = tt
or_l false y t = absurd t

pub or_r : (x y : Bool) → T y → T (x || y)
or_r true y t = tt
or_r false y t = t

-- y tests a ≡ b, from either side
ored : (a b : ℕ) (y : Bool) → (T y → a ≡ b) → T (ltb a b || (y && true)) → a ≤ b
ored a b y g t = go (ltb a b) y (ltb→lt a b) g t
  where
    go : (x y : Bool) → (T x → a < b) → (T y → a ≡ b) → T (x || (y && true)) → a ≤ b
    go true y f g t = omega (arith, f tt)
    go false true f g t = omega (arith, g tt)
    go false false f g t = absurd t

both_true : (x : Bool) → T x → T (x && true)
both_true true t = tt
both_true false t = t

unored : (a b : ℕ) (y : Bool) → (a ≡ b → T y) → a ≤ b → T (ltb a b || (y && true))
unored a b y g h = go (eq-or-lt_of_le h)
  where
    go : (a ≡ b) ⊎ (a < b) → T (ltb a b || (y && true))
    go (inl e) = or_r (ltb a b) (y && true) (both_true y (g e))
    go (inr l) = or_l (ltb a b) (y && true) (lt→ltb a b l)

zeros : (a b : ℕ) → T (eqb a b && eqb a 0) → a + b ≤ 0
zeros a b t = go (eqb a b) (eqb a 0) (eqb→eq a b) (eqb→eq a 0) t
  where
    go : (x y : Bool) → (T x → a ≡ b) → (T y → a ≡ 0) → T (x && y) → a + b ≤ 0
    go true true f g t = omega (arith, f tt, g tt)
    go true false f g t = absurd t
    go false y f g t = absurd t

pub eqb_yes : (a b : ℕ) → a ≡ b → T (eqb a b)
eqb_yes a b e = subst (λ (x : ℕ). T (eqb a x)) e (eqb_refl a)

and_yes : (x y : Bool) → T x → T y → T (x && y)
and_yes true y t u = u
and_yes false y t u = t

unzeros : (a b : ℕ) → a + b ≤ 0 → T (eqb a b && eqb a 0)
unzeros a b h = and_yes (eqb a b) (eqb a 0) (eqb_yes a b (omega arith)) (eqb_yes a 0 (omega arith))

either : (a b : ℕ) → T (ltb 0 (a + b) || (eqb a b && eqb a 0))
either a b = go (eq-or-lt_of_le {n = 0} {m = a + b} (omega arith))
  where
    go : (0 ≡ a + b) ⊎ (0 < a + b) → T (ltb 0 (a + b) || (eqb a b && eqb a 0))
    go (inl e) = or_r (ltb 0 (a + b)) (eqb a b && eqb a 0) (unzeros a b (omega arith))
    go (inr l) = or_l (ltb 0 (a + b)) (eqb a b && eqb a 0) (lt→ltb 0 (a + b) l)

-- ---- `le` of finite values is `Le`
pub le→Le : (x y : Float) → T (finite x) → T (finite y) → T (le x y) → Le x y
unfolding le
le→Le nan y p q h = absurd p
le→Le (inf s) y p q h = absurd p
le→Le (fin s m e) nan p q h = absurd q
le→Le (fin s m e) (inf t) p q h = absurd q
le→Le (fin false m e) (fin false n d) p q h = let a = m * up e * down d in let b = n * up d * down e in omega (arith, ored a b (eqb a b) (eqb→eq a b) h)
le→Le (fin false m e) (fin true n d) p q h = omega (arith, zeros (m * up e * down d) (n * up d * down e) h)
le→Le (fin true m e) (fin false n d) p q h = omega arith
le→Le (fin true m e) (fin true n d) p q h = let a = m * up e * down d in let b = n * up d * down e in omega (arith, ored b a (eqb a b) (λ t. sym (eqb→eq a b t)) h)

pub Le→le : (x y : Float) → T (finite x) → T (finite y) → Le x y → T (le x y)
unfolding le
Le→le nan y p q h = absurd p
Le→le (inf s) y p q h = absurd p
Le→le (fin s m e) nan p q h = absurd q
Le→le (fin s m e) (inf t) p q h = absurd q
Le→le (fin false m e) (fin false n d) p q h = let a = m * up e * down d in let b = n * up d * down e in unored a b (eqb a b) (eqb_yes a b) (omega arith)
Le→le (fin false m e) (fin true n d) p q h = unzeros (m * up e * down d) (n * up d * down e) (omega arith)
Le→le (fin true m e) (fin false n d) p q h = either (m * up e * down d) (n * up d * down e)
Le→le (fin true m e) (fin true n d) p q h = let a = m * up e * down d in let b = n * up d * down e in unored b a (eqb a b) (λ z. eqb_yes a b (sym z)) (omega arith)

-- ---- three fractions: (p - n) / d ≤ (q - m) / c ≤ (r - l) / b
pub under-trans : (p n d q m c r l b : ℕ) → 0 < c → Under p n d q m c → Under q m c r l b → Under p n d r l b
under-trans p n d q m c r l b C h k =
    le_of_mul-le-mul_right (omega (arith, mul-le-mul_right b h, mul-le-mul_right d k)) C

-- ---- what lies between two finite values is finite
pub finite-between : (lo x hi : Float) → T (finite lo) → T (finite hi) → T (le lo x) → T (le x hi) → T (finite x)
unfolding le
finite-between lo (fin s m e) hi p q h k = tt
finite-between nan nan hi p q h k = absurd p
finite-between (inf s) nan hi p q h k = absurd p
finite-between (fin s m e) nan hi p q h k = absurd h
finite-between nan (inf t) hi p q h k = absurd p
finite-between (inf s) (inf t) hi p q h k = absurd p
finite-between (fin s m e) (inf true) hi p q h k = absurd h
finite-between (fin s m e) (inf false) nan p q h k = absurd q
finite-between (fin s m e) (inf false) (inf t) p q h k = absurd q
finite-between (fin s m e) (inf false) (fin t n d) p q h k = absurd k

pub finite-no-nan : (x : Float) → T (finite x) → T (not (is_nan x))
unfolding is_nan
finite-no-nan nan p = absurd p
finite-no-nan (inf s) p = absurd p
finite-no-nan (fin s m e) p = tt

-- ---- the order of all values but the NaN
pub le_refl : (x : Float) → T (not (is_nan x)) → T (le x x)
unfolding le is_nan
le_refl nan p = absurd p
le_refl (inf true) p = tt
le_refl (inf false) p = tt
le_refl (fin s m e) p = Le→le (fin s m e) (fin s m e) tt tt (omega arith)

pub le-no-nan : (x y : Float) → T (le x y) → T (not (is_nan x)) × T (not (is_nan y))
unfolding le is_nan
le-no-nan nan y h = absurd h
le-no-nan (inf s) nan h = absurd h
le-no-nan (inf s) (inf t) h = (tt, tt)
le-no-nan (inf s) (fin t n d) h = (tt, tt)
le-no-nan (fin s m e) nan h = absurd h
le-no-nan (fin s m e) (inf t) h = (tt, tt)
le-no-nan (fin s m e) (fin t n d) h = (tt, tt)

pub inf-least : (x : Float) → T (not (is_nan x)) → T (le (inf true) x)
unfolding le is_nan
inf-least nan p = absurd p
inf-least (inf true) p = tt
inf-least (inf false) p = tt
inf-least (fin s m e) p = tt

pub inf-most : (x : Float) → T (not (is_nan x)) → T (le x (inf false))
unfolding le is_nan
inf-most nan p = absurd p
inf-most (inf true) p = tt
inf-most (inf false) p = tt
inf-most (fin s m e) p = tt

pub le_trans : (x y z : Float) → T (le x y) → T (le y z) → T (le x z)
unfolding le
le_trans nan y z h k = absurd h
le_trans (inf true) y z h k = inf-least z (le-no-nan y z k).1
le_trans (inf false) nan z h k = absurd h
le_trans (inf false) (inf true) z h k = absurd h
le_trans (inf false) (inf false) z h k = k
le_trans (inf false) (fin t n d) z h k = absurd h
le_trans (fin s m e) nan z h k = absurd h
le_trans (fin s m e) (inf true) z h k = absurd h
le_trans (fin s m e) (inf false) nan h k = absurd k
le_trans (fin s m e) (inf false) (inf true) h k = absurd k
le_trans (fin s m e) (inf false) (inf false) h k = tt
le_trans (fin s m e) (inf false) (fin u l g) h k = absurd k
le_trans (fin s m e) (fin t n d) nan h k = absurd k
le_trans (fin s m e) (fin t n d) (inf u) h k = k
le_trans (fin s m e) (fin t n d) (fin u l g) h k =
    let x = fin s m e in
    let y = fin t n d in
    let z = fin u l g in
    Le→le x z tt tt (under-trans (P x) (N x) (den x) (P y) (N y) (den y) (P z) (N z) (den z) (den_pos y) (le→Le x y tt tt h) (le→Le y z tt tt k))

-- ---- the sign, turned
pub le-neg : (x y : Float) → T (le x y) → T (le (neg y) (neg x))
unfolding le neg
le-neg nan y h = absurd h
le-neg (inf true) nan h = absurd h
le-neg (inf true) (inf true) h = tt
le-neg (inf true) (inf false) h = tt
le-neg (inf true) (fin t n d) h = tt
le-neg (inf false) nan h = absurd h
le-neg (inf false) (inf true) h = absurd h
le-neg (inf false) (inf false) h = tt
le-neg (inf false) (fin t n d) h = absurd h
le-neg (fin s m e) nan h = absurd h
le-neg (fin s m e) (inf true) h = absurd h
le-neg (fin s m e) (inf false) h = tt
le-neg (fin true m e) (fin true n d) h = Le→le (fin false n d) (fin false m e) tt tt (omega (arith, le→Le (fin true m e) (fin true n d) tt tt h))
le-neg (fin true m e) (fin false n d) h = Le→le (fin true n d) (fin false m e) tt tt (omega arith)
le-neg (fin false m e) (fin true n d) h = Le→le (fin false n d) (fin true m e) tt tt (omega (arith, le→Le (fin false m e) (fin true n d) tt tt h))
le-neg (fin false m e) (fin false n d) h = Le→le (fin true n d) (fin true m e) tt tt (omega (arith, le→Le (fin false m e) (fin false n d) tt tt h))

-- what is below zero is above it with the sign turned
pub neg-above : (x : Float) → T (lt x (fin false 0 (pos 0))) → T (lt (fin false 0 (pos 0)) (neg x))
unfolding lt neg
neg-above nan p = absurd p
neg-above (inf true) p = tt
neg-above (inf false) p = absurd p
neg-above (fin true m e) p = lt→ltb (0 * down e) (m * up e * 1) (omega (arith, ltb→lt 0 (m * up e * 1 + 0 * down e) p))
neg-above (fin false m e) p = absurd (no (m * up e * 1) (down e) (ltb→lt (m * up e * 1) (0 * down e) p))
  where
    no : (a d : ℕ) → a < 0 * d → ⊥
    no a d h = omega arith

-- ---- a test that failed, and the strict order
pub lt→le : (x y : Float) → T (lt x y) → T (le x y)
unfolding le
lt→le x y t = or_l (lt x y) (eq x y) t

pub not-lt→le : (x y : Float) → T (not (is_nan x)) → T (not (is_nan y)) → T (not (lt x y)) → T (le y x)
unfolding le is_nan
not-lt→le nan y p q h = absurd p
not-lt→le (inf s) nan p q h = absurd q
not-lt→le (inf true) (inf true) p q h = tt
not-lt→le (inf true) (inf false) p q h = absurd h
not-lt→le (inf true) (fin t n d) p q h = absurd h
not-lt→le (inf false) (inf true) p q h = tt
not-lt→le (inf false) (inf false) p q h = tt
not-lt→le (inf false) (fin t n d) p q h = tt
not-lt→le (fin s m e) nan p q h = absurd q
not-lt→le (fin s m e) (inf true) p q h = tt
not-lt→le (fin s m e) (inf false) p q h = absurd h
not-lt→le (fin false m e) (fin false n d) p q h = Le→le (fin false n d) (fin false m e) tt tt (omega (arith, nltb→le (m * up e * down d) (n * up d * down e) h))
not-lt→le (fin false m e) (fin true n d) p q h = Le→le (fin true n d) (fin false m e) tt tt (omega arith)
not-lt→le (fin true m e) (fin false n d) p q h = Le→le (fin false n d) (fin true m e) tt tt (omega (arith, nltb→le 0 (m * up e * down d + n * up d * down e) h))
not-lt→le (fin true m e) (fin true n d) p q h = Le→le (fin true n d) (fin true m e) tt tt (omega (arith, nltb→le (n * up d * down e) (m * up e * down d) h))

-- x < y and y ≤ x exclude each other
pub lt_not_le : (x y : Float) → T (lt x y) → T (le y x) → ⊥
unfolding le
lt_not_le nan y h k = h
lt_not_le (inf s) nan h k = h
lt_not_le (inf true) (inf true) h k = h
lt_not_le (inf true) (inf false) h k = k
lt_not_le (inf true) (fin t n d) h k = k
lt_not_le (inf false) (inf t) h k = h
lt_not_le (inf false) (fin t n d) h k = h
lt_not_le (fin s m e) nan h k = h
lt_not_le (fin s m e) (inf true) h k = h
lt_not_le (fin s m e) (inf false) h k = k
lt_not_le (fin false m e) (fin false n d) h k = omega (arith, ltb→lt (m * up e * down d) (n * up d * down e) h, le→Le (fin false n d) (fin false m e) tt tt k)
lt_not_le (fin false m e) (fin true n d) h k = h
lt_not_le (fin true m e) (fin false n d) h k = omega (arith, ltb→lt 0 (m * up e * down d + n * up d * down e) h, le→Le (fin false n d) (fin true m e) tt tt k)
lt_not_le (fin true m e) (fin true n d) h k = omega (arith, ltb→lt (n * up d * down e) (m * up e * down d) h, le→Le (fin true n d) (fin true m e) tt tt k)

-- x < y from: y ≤ x is absurd
pub lt-of-not : (x y : Float) → T (not (is_nan x)) → T (not (is_nan y)) → (T (le y x) → ⊥) → T (lt x y)
lt-of-not x y p q h = go (lt x y) (not-lt→le x y p q)
  where
    go : (b : Bool) → (T (not b) → T (le y x)) → T b
    go true k = tt
    go false k = absurd (h (k tt))

pub le-lt : (x y z : Float) → T (le x y) → T (lt y z) → T (lt x z)
le-lt x y z h k = lt-of-not x z (le-no-nan x y h).0 (le-no-nan y z (lt→le y z k)).1 (λ g. lt_not_le y z k (le_trans z x y g h))

pub lt-le : (x y z : Float) → T (lt x y) → T (le y z) → T (lt x z)
lt-le x y z h k = lt-of-not x z (le-no-nan x y (lt→le x y h)).0 (le-no-nan y z k).1 (λ g. lt_not_le x y h (le_trans y z x k g))

-- `x != x` tells a NaN
pub ne-self : (x : Float) → ne x x ≡ is_nan x
unfolding ne eq is_nan
ne-self nan = refl
ne-self (inf true) = refl
ne-self (inf false) = refl
ne-self (fin true m e) = ap not (ap (λ (b : Bool). b && true) (is_true (eqb (m * up e * down e) (m * up e * down e)) (eqb_refl (m * up e * down e))))
ne-self (fin false m e) = ap not (ap (λ (b : Bool). b && true) (is_true (eqb (m * up e * down e) (m * up e * down e)) (eqb_refl (m * up e * down e))))

pub same-no-nan : (x : Float) → T (not (ne x x)) → T (not (is_nan x))
unfolding ne is_nan
same-no-nan nan h = h
same-no-nan (inf s) h = tt
same-no-nan (fin s m e) h = tt

pub le_antisym : (x y : Float) → T (le x y) → T (le y x) → T (eq x y)
unfolding le
le_antisym x y h k = go (lt x y) (eq x y) h (λ t. lt_not_le x y t k)
  where
    go : (a b : Bool) → T (a || b) → (T a → ⊥) → T b
    go true b h f = absurd (f tt)
    go false b h f = h

pub eq→le : (x y : Float) → T (eq x y) → T (le x y)
unfolding le
eq→le x y h = or_r (lt x y) (eq x y) h

beq-comm : (s t : Bool) → beq s t ≡ beq t s
beq-comm true true = refl
beq-comm true false = refl
beq-comm false true = refl
beq-comm false false = refl

pub eq-sym : (x y : Float) → T (eq x y) → T (eq y x)
unfolding eq
eq-sym nan y h = absurd h
eq-sym (inf s) nan h = absurd h
eq-sym (inf s) (inf t) h = subst T (beq-comm s t) h
eq-sym (inf s) (fin t n d) h = absurd h
eq-sym (fin s m e) nan h = absurd h
eq-sym (fin s m e) (inf t) h = absurd h
eq-sym (fin s m e) (fin t n d) h = go (m * up e * down d) (n * up d * down e) h
  where
    go : (a b : ℕ) → T (level s a t b) → T (level t b s a)
    go a b h =
        subst (λ (z : ℕ). T (level t z s a)) (eqb→eq a b (and_l (eqb a b) (beq s t || eqb a 0) h))
        (and_yes (eqb a a) (beq t s || eqb a 0) (eqb_refl a) (subst (λ (c : Bool). T (c || eqb a 0)) (beq-comm s t) (and_r (eqb a b) (beq s t || eqb a 0) h)))
