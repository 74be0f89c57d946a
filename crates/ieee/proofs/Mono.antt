-- The operations grow and shrink with their arguments, over all finite values and in both formats. Assumes nothing.
use mathlib.Core.Path.{◌≡◌, refl, ap}
use mathlib.Core.Logic.{◌⊎◌, inl, inr}
use Prim.Native.Nat.{ℕ, ◌+◌, ◌*◌, ◌≤◌}
use native.Mathlib.Nat
use native.Mathlib.Nat.{mul-le-mul_right, mul-pos}
use native.Mathlib.Omega.{arith}
use mathlib.Core.Bool.{Bool, true, false, not, cond}
use lib.Dec.{T, eqb}
use lib.IntN.{pos}
use lib.Ieee.{Float, nan, inf, fin, Format, up, down, unlike, le, neg, add, sub, mul, div, of_int, is_nan}
use lib.Ieee.Scale.{finite}
use lib.Ieee.Positive.{den, den_pos, positive}
use Rattle.ieee.proofs.Value.{le_trans, le-neg, le_refl, le-no-nan, inf-least, inf-most, finite-no-nan, P, N, Under, le→Le}
use Rattle.ieee.proofs.Rounds.{neg-finite, rounds-mono, add_rounds, mul-rounds, div-rounds, whole-rounds, P_pos}

-- ---- x + y in both, x - y up in x and down in y
left-under : (p n d p' n' d' q m c : ℕ) → Under p n d p' n' d' → Under (p * c + q * d) (n * c + m * d) (d * c) (p' * c + q * d') (n' * c + m * d') (d' * c)
left-under p n d p' n' d' q m c h = omega (arith, mul-le-mul_right (c * c) h)

right-under : (p n d q m c q' m' c' : ℕ) → Under q m c q' m' c' → Under (p * c + q * d) (n * c + m * d) (d * c) (p * c' + q' * d) (n * c' + m' * d) (d * c')
right-under p n d q m c q' m' c' h = omega (arith, mul-le-mul_right (d * d) h)

pub add-mono : (f : Format) (x x' y y' : Float) → T (finite x) → T (finite x') → T (finite y) → T (finite y') → T (le x x') → T (le y y') → T (le (add f x y) (add f x' y'))
add-mono f x x' y y' X X' Y Y' h k =
    le_trans (add f x y) (add f x' y) (add f x' y')
    (rounds-mono f (add f x y) (add f x' y) _ _ _ _ _ _ (mul-pos (den_pos x) (den_pos y)) (mul-pos (den_pos x') (den_pos y)) (add_rounds f x y X Y) (add_rounds f x' y X' Y)
    (left-under (P x) (N x) (den x) (P x') (N x') (den x') (P y) (N y) (den y) (le→Le x x' X X' h)))
    (rounds-mono f (add f x' y) (add f x' y') _ _ _ _ _ _ (mul-pos (den_pos x') (den_pos y)) (mul-pos (den_pos x') (den_pos y')) (add_rounds f x' y X' Y) (add_rounds f x' y' X' Y')
    (right-under (P x') (N x') (den x') (P y) (N y) (den y) (P y') (N y') (den y') (le→Le y y' Y Y' k)))

pub sub-mono : (f : Format) (x x' y y' : Float) → T (finite x) → T (finite x') → T (finite y) → T (finite y') → T (le x x') → T (le y' y) → T (le (sub f x y) (sub f x' y'))
unfolding sub
sub-mono f x x' y y' X X' Y Y' h k = add-mono f x x' (neg y) (neg y') X X' (neg-finite y Y) (neg-finite y' Y') h (le-neg y' y k)

-- ---- c * x
abbrev pub null : Float
null = fin false 0 (pos 0)

pub not_negative : (x : Float) → T (finite x) → T (le null x) → N x ≡ 0
not_negative nan p h = absurd p
not_negative (inf s) p h = absurd p
not_negative (fin false m e) p h = refl
not_negative (fin true m e) p h = go (m * up e) (le→Le null (fin true m e) tt tt h)
  where
    go : (a : ℕ) → 0 * den (fin true m e) + a * 1 ≤ 0 * 1 + 0 * den (fin true m e) → a ≡ 0
    go a h = omega arith

-- ---- one factor fixed: up where it is not negative, down where it is not positive
pub one-sign : (x : Float) → (N x ≡ 0) ⊎ (P x ≡ 0)
one-sign nan = inl refl
one-sign (inf s) = inl refl
one-sign (fin true m e) = inr refl
one-sign (fin false m e) = inl refl

module _ (f : Format) (c x x' : Float) (C : T (finite c)) (X : T (finite x)) (X' : T (finite x')) (h : T (le x x')) where
  pub mul-up : N c ≡ 0 → T (le (mul f c x) (mul f c x'))
  mul-up e =
      rounds-mono f (mul f c x) (mul f c x') _ _ _ _ _ _ (mul-pos (den_pos c) (den_pos x)) (mul-pos (den_pos c) (den_pos x')) (mul-rounds f c x C X) (mul-rounds f c x' C X')
      (go (P c) (N c) (den c) (P x) (N x) (den x) (P x') (N x') (den x') e (le→Le x x' X X' h))
    where
      go : (w z b p n d q m k : ℕ) → z ≡ 0 → Under p n d q m k → Under (w * p + z * n) (w * n + z * p) (b * d) (w * q + z * m) (w * m + z * q) (b * k)
      go w z b p n d q m k e h = rw e (omega (arith, mul-le-mul_right (w * b) h))

  pub mul-down : P c ≡ 0 → T (le (mul f c x') (mul f c x))
  mul-down e =
      rounds-mono f (mul f c x') (mul f c x) _ _ _ _ _ _ (mul-pos (den_pos c) (den_pos x')) (mul-pos (den_pos c) (den_pos x)) (mul-rounds f c x' C X') (mul-rounds f c x C X)
      (go (P c) (N c) (den c) (P x) (N x) (den x) (P x') (N x') (den x') e (le→Le x x' X X' h))
    where
      go : (w z b p n d q m k : ℕ) → w ≡ 0 → Under p n d q m k → Under (w * q + z * m) (w * m + z * q) (b * k) (w * p + z * n) (w * n + z * p) (b * d)
      go w z b p n d q m k e h = rw e (omega (arith, mul-le-mul_right (z * b) h))

pub mul_mono : (f : Format) (c x x' : Float) → T (finite c) → T (finite x) → T (finite x') → T (le null c) → T (le x x') → T (le (mul f c x) (mul f c x'))
mul_mono f c x x' C X X' g h = mul-up f c x x' C X X' h (not_negative c C g)

unlike-comm : (s t : Bool) → unlike s t ≡ unlike t s
unlike-comm true true = refl
unlike-comm true false = refl
unlike-comm false true = refl
unlike-comm false false = refl

pub mul_comm : (f : Format) (x y : Float) → mul f x y ≡ mul f y x
unfolding mul
mul_comm f nan nan = refl
mul_comm f nan (inf t) = refl
mul_comm f nan (fin t n d) = refl
mul_comm f (inf s) nan = refl
mul_comm f (inf s) (inf t) = ap inf (unlike-comm s t)
mul_comm f (inf s) (fin t n d) = ap (λ (b : Bool). cond (eqb n 0) nan (inf b)) (unlike-comm s t)
mul_comm f (fin s m e) nan = refl
mul_comm f (fin s m e) (inf t) = ap (λ (b : Bool). cond (eqb m 0) nan (inf b)) (unlike-comm s t)
mul_comm f (fin s m e) (fin t n d) = rw (unlike-comm s t, Nat.mul_comm (m * up e) (n * up d), Nat.mul_comm (down e) (down d)) refl

pub mul-mono-left : (f : Format) (x x' c : Float) → T (finite x) → T (finite x') → T (finite c) → T (le null c) → T (le x x') → T (le (mul f x c) (mul f x' c))
mul-mono-left f x x' c X X' C g h = rw (mul_comm f x c, mul_comm f x' c) (mul_mono f c x x' C X X' g h)

-- ---- x / y for a y above zero: up in x; in y down where x is not negative, and up where it is not positive
pub div_mono : (f : Format) (x x' y : Float) → T (finite x) → T (finite x') → T (positive y) → T (le x x') → T (le (div f x y) (div f x' y))
div_mono f x x' y X X' Y h =
    let k = P_pos y Y in
    rounds-mono f (div f x y) (div f x' y) _ _ _ _ _ _ (mul-pos (den_pos x) k.0) (mul-pos (den_pos x') k.0) (div-rounds f x y X Y) (div-rounds f x' y X' Y)
    (go (P x) (N x) (den x) (P x') (N x') (den x') (P y) (den y) (le→Le x x' X X' h))
  where
    go : (p n d q m c w b : ℕ) → Under p n d q m c → Under (p * b) (n * b) (d * w) (q * b) (m * b) (c * w)
    go p n d q m c w b h = omega (arith, mul-le-mul_right (w * b) h)

module _ (f : Format) (x y y' : Float) (X : T (finite x)) (Y : T (positive y)) (Y' : T (positive y')) (h : T (le y y')) where
  cross : P y * den y' ≤ P y' * den y
  cross =
      let k = P_pos y Y in
      let k' = P_pos y' Y' in
      go (P y) (N y) (den y) (P y') (N y') (den y') k.1 k'.1 (le→Le y y' k.2 k'.2 h)
    where
      go : (p n d q m c : ℕ) → n ≡ 0 → m ≡ 0 → Under p n d q m c → p * c ≤ q * d
      go p n d q m c a b h = omega (arith, h, ap (λ (z : ℕ). z * c) a, ap (λ (z : ℕ). z * d) b)

  pub div-down : N x ≡ 0 → T (le (div f x y') (div f x y))
  div-down e =
      rounds-mono f (div f x y') (div f x y) _ _ _ _ _ _ (mul-pos (den_pos x) (P_pos y' Y').0) (mul-pos (den_pos x) (P_pos y Y).0) (div-rounds f x y' X Y') (div-rounds f x y X Y)
      (go (P x) (N x) (den x) (P y) (den y) (P y') (den y') e cross)
    where
      go : (w z b p d q c : ℕ) → z ≡ 0 → p * c ≤ q * d → Under (w * c) (z * c) (b * q) (w * d) (z * d) (b * p)
      go w z b p d q c e h = rw e (omega (arith, mul-le-mul_right (w * b) h))

  pub div-up : P x ≡ 0 → T (le (div f x y) (div f x y'))
  div-up e =
      rounds-mono f (div f x y) (div f x y') _ _ _ _ _ _ (mul-pos (den_pos x) (P_pos y Y).0) (mul-pos (den_pos x) (P_pos y' Y').0) (div-rounds f x y X Y) (div-rounds f x y' X Y')
      (go (P x) (N x) (den x) (P y) (den y) (P y') (den y') e cross)
    where
      go : (w z b p d q c : ℕ) → w ≡ 0 → p * c ≤ q * d → Under (w * d) (z * d) (b * p) (w * c) (z * c) (b * q)
      go w z b p d q c e h = rw e (omega (arith, mul-le-mul_right (z * b) h))

pub div-anti : (f : Format) (x y y' : Float) → T (finite x) → T (positive y) → T (positive y') → T (le null x) → T (le y y') → T (le (div f x y') (div f x y))
div-anti f x y y' X Y Y' g h = div-down f x y y' X Y Y' h (not_negative x X g)

-- ---- an integer's float
pub whole-mono : (f : Format) (n n' : ℕ) → n ≤ n' → T (le (of_int f (pos n)) (of_int f (pos n')))
whole-mono f n n' h = rounds-mono f (of_int f (pos n)) (of_int f (pos n')) n 0 1 n' 0 1 (omega arith) (omega arith) (whole-rounds f n) (whole-rounds f n') (omega arith)

-- ---- a divisor below zero, and a factor's sign: through the negation
neg-neg : (x : Float) → neg (neg x) ≡ x
unfolding neg
neg-neg nan = refl
neg-neg (inf true) = refl
neg-neg (inf false) = refl
neg-neg (fin true m e) = refl
neg-neg (fin false m e) = refl

-- ---- x + y in y, where y may be an infinity
add-no-nan : (f : Format) (x y : Float) → T (finite x) → T (not (is_nan y)) → T (not (is_nan (add f x y)))
add-no-nan f nan y X n = absurd X
add-no-nan f (inf s) y X n = absurd X
add-no-nan f (fin s m e) nan X n = absurd (unfold is_nan in n)
add-no-nan f (fin s m e) (inf t) X n = unfold add is_nan in tt
add-no-nan f (fin s m e) (fin t n d) X k =
    let x = fin s m e in
    let y = fin t n d in
    (le-no-nan (add f x y) (add f x y) (add-mono f x x y y tt tt tt tt (le_refl x (unfold is_nan in tt)) (le_refl y (unfold is_nan in tt)))).0

add-inf : (f : Format) (x : Float) (t : Bool) → T (finite x) → add f x (inf t) ≡ inf t
unfolding add
add-inf f nan t X = absurd X
add-inf f (inf s) t X = absurd X
add-inf f (fin s m e) t X = refl

pub add-mono-right : (f : Format) (x y y' : Float) → T (finite x) → T (le y y') → T (le (add f x y) (add f x y'))
add-mono-right f x nan y' X h = absurd (unfold le in h)
add-mono-right f x (inf true) y' X h = rw (add-inf f x true X) (inf-least (add f x y') (add-no-nan f x y' X (le-no-nan (inf true) y' h).1))
add-mono-right f x (inf false) nan X h = absurd (unfold le in h)
add-mono-right f x (inf false) (inf true) X h = absurd (unfold le in h)
add-mono-right f x (inf false) (inf false) X h = rw (add-inf f x false X) (unfold le in tt)
add-mono-right f x (inf false) (fin t n d) X h = absurd (unfold le in h)
add-mono-right f x (fin s m e) nan X h = absurd (unfold le in h)
add-mono-right f x (fin s m e) (inf true) X h = absurd (unfold le in h)
add-mono-right f x (fin s m e) (inf false) X h = rw (add-inf f x false X) (inf-most (add f x (fin s m e)) (add-no-nan f x (fin s m e) X (unfold is_nan in tt)))
add-mono-right f x (fin s m e) (fin t n d) X h = add-mono f x x (fin s m e) (fin t n d) X X tt tt (le_refl x (finite-no-nan x X)) h
