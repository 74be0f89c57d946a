-- `Is z p n d`: z is finite, and its value is exactly (p - n) / d, a zero's sign apart. Where the format holds the fraction, its rounding is it; and so x - y is exact for y ≤ x ≤ 2 y. Assumes nothing.
use mathlib.Core.Path.{◌≡◌, refl, sym, ap, ◌∙◌}
use Prim.Native.Nat.{ℕ, zero, suc, ◌+◌, ◌-◌, ◌*◌, ◌^◌, ◌≤◌, ◌<◌}
use native.Mathlib.Nat
use native.Mathlib.Nat.{le_trans, le_of_eq, le_of_lt, add-mul, mul_assoc, le_antisymm, le_of_mul-le-mul_right, mul-le-mul_right, mul-pos, eq_of_mul-eq-mul_right, lt_of_le_of_lt}
use native.Mathlib.Omega.{arith}
use mathlib.Core.Bool.{Bool, true, false, not}
use lib.Dec.{T, leb, leb→le, nleb→lt}
use lib.IntN.{ℤ}
use lib.Pow.{pow-add, pow_pos}
use lib.Ieee.{Float, nan, inf, fin, Format, prec, emax, low, up, down, round, le, sub, fits}
use lib.Ieee.Fits.{down_pos}
use lib.Ieee.Exact.{HasValue, round_exact}
use lib.Ieee.Scale.{finite}
use lib.Ieee.Positive.{den, den_pos, positive}
use Rattle.ieee.proofs.Value.{P, N, le→Le, finite-between}
use Rattle.ieee.proofs.Rounds.{Rounds, plus-of, rounds-mono, rounds-same, sub-rounds}
use Rattle.ieee.proofs.Representable.{fits-parts, units_of}

abbrev pub Is : Float → ℕ → ℕ → ℕ → Type 0
Is z p n d = T (finite z) × (P z * d + n * den z ≡ p * den z + N z * d)

pub is-of-value : (z : Float) (a c : ℕ) → HasValue z false a c → Is z a 0 c
is-of-value nan a c h = absurd h
is-of-value (inf s) a c h = absurd h
is-of-value (fin true m e) a c h = absurd (mathlib.Core.Bool.true≢false h.0)
is-of-value (fin false m e) a c h = (tt, omega (arith, h.1))

-- equal fractions
same : (P N D p n d q m c : ℕ) → 0 < d → p * c + m * d ≡ q * d + n * c → P * d + n * D ≡ p * D + N * d → P * c + m * D ≡ q * D + N * c
same P N D p n d q m c H h e = eq_of_mul-eq-mul_right d H (P * c + m * D) (q * D + N * c) (omega (arith, ap (λ (x : ℕ). x * c) e, ap (λ (x : ℕ). x * D) h))

pub is_same : (z : Float) (p n d q m c : ℕ) → 0 < d → p * c + m * d ≡ q * d + n * c → Is z p n d → Is z q m c
is_same z p n d q m c D h (a, e) = (a, same (P z) (N z) (den z) p n d q m c D h e)

-- two values, each no more than the other
pub is-level : (z w : Float) (p n d : ℕ) → T (le z w) → T (le w z) → Is w p n d → Is z p n d
is-level z w p n d h k (a, e) =
    let Z = finite-between w z w a a k h in
    let u = le→Le z w Z a h in
    let v = le→Le w z a Z k in
    (Z, same' (P z) (N z) (den z) (P w) (N w) (den w) p n d (den_pos w) (le_antisymm u (omega (arith, v))) e)
  where
    same' : (P N D Q M C p n d : ℕ) → 0 < C → P * C + M * D ≡ Q * D + N * C → Q * d + n * C ≡ p * C + M * d → P * d + n * D ≡ p * D + N * d
    same' P N D Q M C p n d H g e = eq_of_mul-eq-mul_right C H (P * d + n * D) (p * D + N * d) (omega (arith, ap (λ (x : ℕ). x * d) g, ap (λ (x : ℕ). x * D) e))

-- ---- a multiple q * 2 ^ i of the format's smallest value, q of no more digits than the format keeps, is its own rounding
pub exact-units : (f : Format) (z : Float) (q i : ℕ) → q < 2 ^ prec f → q * 2 ^ i < 2 ^ (low f + suc (emax f)) → Rounds f z (q * 2 ^ i) 0 (2 ^ low f) → Is z (q * 2 ^ i) 0 (2 ^ low f)
exact-units f z q i h k r =
    let a = q * 2 ^ i in
    let l = 2 ^ low f in
    let w = round f false a l in
    let W : Rounds f w a 0 l = plus-of f w a 0 l a (omega arith) refl in
    let L = pow_pos (low f) in
    is-level z w a 0 l (rounds-mono f z w a 0 l a 0 l L L r W (omega arith)) (rounds-mono f w z a 0 l a 0 l L L W r (omega arith))
    (is-of-value w a l (round_exact f false a l q i L h k (Nat.mul_comm a l ∙ Nat.mul_comm l a)))

-- ---- the difference of two values above zero, y ≤ x ≤ 2 y (Sterbenz)
-- X = m * 2 ^ j and Y = n * 2 ^ k units, Y ≤ X ≤ 2 * Y: X - Y is q * 2 ^ i units, q no more than m or n
apart : (a c : ℕ) → c ≤ a → (r : ℕ) → r * 2 ^ a ≡ r * 2 ^ (a - c) * 2 ^ c
apart a c l r = ap (λ (x : ℕ). r * 2 ^ x) (back a c l) ∙ ap (λ (x : ℕ). r * x) (pow-add 2 (a - c) c) ∙ sym (mul_assoc r (2 ^ (a - c)) (2 ^ c))
  where
    back : (a c : ℕ) → c ≤ a → a ≡ a - c + c
    back a c l = omega arith

-- u times w less v times w
less : (u v w : ℕ) → v ≤ u → u * w ≡ (u - v) * w + v * w
less u v w l = ap (λ (x : ℕ). x * w) (back u v l) ∙ add-mul (u - v) v w
  where
    back : (u v : ℕ) → v ≤ u → u ≡ u - v + v
    back u v l = omega arith

gap : (m n j k b : ℕ) → m < b → n < b → n * 2 ^ k ≤ m * 2 ^ j → m * 2 ^ j ≤ 2 * (n * 2 ^ k) → (q : ℕ) × (i : ℕ) × (q < b) × (m * 2 ^ j ≡ q * 2 ^ i + n * 2 ^ k)
gap m n j k b mb nb h g = go (leb k j) (leb→le k j) (nleb→lt k j)
  where
    go : (t : Bool) → (T t → k ≤ j) → (T (not t) → j < k) → (q : ℕ) × (i : ℕ) × (q < b) × (m * 2 ^ j ≡ q * 2 ^ i + n * 2 ^ k)
    go true l r =
        let u = m * 2 ^ (j - k) in
        let e : m * 2 ^ j ≡ u * 2 ^ k = apart j k (l tt) m in
        let a : n ≤ u = le_of_mul-le-mul_right {k = 2 ^ k} (omega arith) (pow_pos k) in
        let c : u ≤ 2 * n = le_of_mul-le-mul_right {k = 2 ^ k} (omega arith) (pow_pos k) in
        (u - n, k, omega arith, e ∙ less u n (2 ^ k) a)
    go false l r =
        let v = n * 2 ^ (k - j) in
        let e : n * 2 ^ k ≡ v * 2 ^ j = apart k j (le_of_lt (r tt)) n in
        let a : v ≤ m = le_of_mul-le-mul_right {k = 2 ^ j} (omega arith) (pow_pos j) in
        (m - v, j, omega arith, less m v (2 ^ j) a ∙ ap (λ (x : ℕ). (m - v) * 2 ^ j + x) (sym e))

wider : (A E D L X : ℕ) → A * L ≡ X * E → A * D * L ≡ X * (E * D)
wider A E D L X h = omega (arith, ap (λ (x : ℕ). x * D) h)

order : (A B D L X Y k : ℕ) → 0 < D → A * L ≡ X * D → B * L ≡ Y * D → B ≤ k * A → Y ≤ k * X
order A B D L X Y k H a b h = le_of_mul-le-mul_right {k = D} (omega (arith, mul-le-mul_right L h, ap (λ (x : ℕ). k * x) a)) H

half : (f : Format) (x : Float) (m n : ℕ) (e d : ℤ) → T (fits f (fin false (suc m) e)) → T (fits f (fin false (suc n) d))
    → suc n * up d * down e ≤ 1 * (suc m * up e * down d) → suc m * up e * down d ≤ 2 * (suc n * up d * down e)
    → Rounds f x (suc m * up e * down d + 0 * down e) (0 * down d + suc n * up d * down e) (down e * down d)
    → Is x (suc m * up e * down d) (suc n * up d * down e) (down e * down d)
half f x m n e d p q h g r =
    let u = units_of f false m e p in
    let v = units_of f false n d q in
    let A = suc m * up e * down d in
    let B = suc n * up d * down e in
    let X = suc m * 2 ^ u.0 in
    let Y = suc n * 2 ^ v.0 in
    let D = down e * down d in
    let H = mul-pos (down_pos e) (down_pos d) in
    let L = 2 ^ low f in
    let a : A * L ≡ X * D = wider (suc m * up e) (down e) (down d) L X u.1 in
    let b : B * L ≡ Y * D = wider (suc n * up d) (down d) (down e) L Y v.1 ∙ ap (λ (x : ℕ). Y * x) (Nat.mul_comm (down d) (down e)) in
    let w = gap (suc m) (suc n) u.0 v.0 (2 ^ prec f) (fits-parts f false m e p).1 (fits-parts f false n d q).1 (le_trans (order A B D L X Y 1 H a b h) (le_of_eq (Nat.one-mul X))) (order B A D L Y X 2 H b a g) in
    let W = w.0 * 2 ^ w.1 in
    let c : A * L ≡ W * D + B * L = join A B D L X Y W a b w.3 in
    is_same x W 0 L A B D (pow_pos (low f)) (omega (arith, c))
    (exact-units f x w.0 w.1 w.2 (lt_of_le_of_lt {n = W} {m = X} (under X W Y w.3) u.2)
    (rounds-same f x (A + 0 * down e) (0 * down d + B) D W 0 L H (pow_pos (low f)) (omega (arith, c)) r))
  where
    join : (A B D L X Y W : ℕ) → A * L ≡ X * D → B * L ≡ Y * D → X ≡ W + Y → A * L ≡ W * D + B * L
    join A B D L X Y W a b c = omega (arith, a, b, ap (λ (x : ℕ). x * D) c)

    under : (X W Y : ℕ) → X ≡ W + Y → W ≤ X
    under X W Y h = omega arith

pub sub-exact : (f : Format) (x y : Float) → T (positive x) → T (positive y) → T (fits f x) → T (fits f y) → P y * den x ≤ P x * den y → P x * den y ≤ 2 * (P y * den x) → Is (sub f x y) (P x * den y) (P y * den x) (den x * den y)
sub-exact f nan y p q a b h k = absurd p
sub-exact f (inf s) y p q a b h k = absurd p
sub-exact f (fin true m e) y p q a b h k = absurd p
sub-exact f (fin false m e) nan p q a b h k = absurd q
sub-exact f (fin false m e) (inf t) p q a b h k = absurd q
sub-exact f (fin false m e) (fin true n d) p q a b h k = absurd q
sub-exact f (fin false zero e) (fin false n d) p q a b h k = absurd p
sub-exact f (fin false (suc m) e) (fin false zero d) p q a b h k = absurd q
sub-exact f (fin false (suc m) e) (fin false (suc n) d) p q a b h k = half f (sub f (fin false (suc m) e) (fin false (suc n) d)) m n e d a b (omega arith) k (sub-rounds f (fin false (suc m) e) (fin false (suc n) d) tt tt)
