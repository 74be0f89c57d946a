-- What is left of x after k ln 2 is taken off is at most a half either way. Sizes are whole numbers of 2 ^ -1074, which is written 1 / (2 * J). Assumes nothing.
use mathlib.Core.Path.{◌≡◌, refl, sym, ap, ◌∙◌, subst}
use Prim.Native.Nat.{ℕ, zero, suc, ◌+◌, ◌-◌, ◌*◌, ◌/◌, ◌^◌, ◌≤◌, ◌<◌, min}
use native.Mathlib.Nat.{le_of_mul-le-mul_right, mul-le-mul_right, mul-pos, lt_of_mul-lt-mul_right, zero-lt-suc, le_of_suc-le-suc, lt_of_le_of_lt}
use native.Mathlib.Omega.{arith}
use mathlib.Core.Bool.{Bool, true, false, cond, true≢false, false≢true}
use lib.Dec.{T, lit<, lit≤}
use lib.Pow.{pow_pos}
use lib.IntN.{ℤ, pos, negsuc, neg_ℤ}
use borrow.Author.Tests.{lt-ltb, le-ltb}
use lib.Ieee.{Float, nan, inf, fin, binary64, up, down, round, lt, neg, add, sub, mul, fits, of_int, of_bits, to_signed}
use lib.Ieee.Fits.{down_pos, up_pos}
use lib.Ieee.Exact.{HasValue}
use lib.Ieee.Scale.{finite}
use lib.Ieee.Positive.{den, den_pos}
use lib.Ieee.Back.{round_whole}
use Rattle.ieee.specs.Range.{In, w64}
use Rattle.exp.specs.Exp.{shifted}
use Rattle.ieee.proofs.Value.{P, N, le→Le}
use Rattle.ieee.proofs.Rounds.{Rounds, plus-of, minus-of, rounds-same, sub-rounds}
use Rattle.ieee.proofs.Representable.{units_of, rounds-le, rounds-ge}
use Rattle.ieee.proofs.Bounds.{in-finite}
use Rattle.ieee.proofs.Exact.{Is}
use Rattle.ieee.proofs.Units.{rescale}
use Rattle.exp.proofs.ExpLaws.{lo, hi, t-in, log2e, half, shifted_in}
use Rattle.ieee.proofs.RoundingError.{tick, near}
use Rattle.ieee.proofs.Sizes.{near-size, mul-size, sum-size, cut-size, round-size}

-- ---- a constant factor L / c, to six places: x * L / c ≤ t + (2 * J) / e gives x * A ≤ t * B + 2 * J, for A / B ≤ L / c and B ≤ e; and the other way
less-than : (x t J A B c L e : ℕ) → 0 < c → 0 < e → A * c ≤ B * L → B ≤ e → x * L * e ≤ t * c * e + 2 * J * c → x * A ≤ t * B + 2 * J
less-than x t J A B c L e C E h k g =
    le_of_mul-le-mul_right {k = c * e} (omega (arith, mul-le-mul_right (x * e) h, mul-le-mul_right B g, mul-le-mul_right (2 * J * c) k)) (mul-pos C E)

more-than : (x t J A B c L e : ℕ) → 0 < c → 0 < e → B * L ≤ A * c → B ≤ e → t * c * e ≤ x * L * e + 2 * J * c → t * B ≤ x * A + 2 * J
more-than x t J A B c L e C E h k g =
    le_of_mul-le-mul_right {k = c * e} (omega (arith, mul-le-mul_right (x * e) h, mul-le-mul_right B g, mul-le-mul_right (2 * J * c) k)) (mul-pos C E)

rough : (x t u w a J : ℕ) → x * 1442695 ≤ t * 1000000 + 2 * J → t * 1000000 ≤ x * 1442696 + 2 * J → (t + J) * 1000 ≤ u * 1000 + J → u * 1000 ≤ (t + J) * 1000 + J
    → w ≤ u → u ≤ w + 2 * J → w ≤ 1023 * (2 * J) → w * 693147 ≤ a * 1000000 + 2 * J → a * 1000000 ≤ w * 693148 + 2 * J
    → (x * 16 ≤ a * 16 + 7 * (2 * J)) × (a * 16 ≤ x * 16 + 7 * (2 * J))
rough x t u w a J h1 h2 h3 h4 h5 h6 h7 h8 h9 = (omega arith, omega arith)

half-low : (t u J : ℕ) → (t + J) * 4398046511104 ≤ u * 4398046511104 + 2 * J → (t + J) * 1000 ≤ u * 1000 + J
half-low t u J h = omega arith

half_high : (t u J : ℕ) → u * 4398046511104 ≤ (t + J) * 4398046511104 + 2 * J → u * 1000 ≤ (t + J) * 1000 + J
half_high t u J h = omega arith

one-low : (t u J k : ℕ) → (t + J) * 4398046511104 ≤ u * 1 * 4398046511104 + k * 1 → (t + J) * 4398046511104 ≤ u * 4398046511104 + k
one-low t u J k h = omega arith

one-high : (t u J k : ℕ) → u * 1 * 4398046511104 ≤ (t + J) * 4398046511104 + k * 1 → u * 4398046511104 ≤ (t + J) * 4398046511104 + k
one-high t u J k h = omega arith

-- ---- the sizes: x, t = x / ln 2 rounded, u = t + 1 / 2 rounded, k = u cut (as w = k units of 1), a = k times the upper part of ln 2, rounded
bound : (x t u w a J : ℕ)
    → x * 3248660424278399 * 4398046511104 ≤ t * 2251799813685248 * 4398046511104 + 2 * J * 2251799813685248
    → t * 2251799813685248 * 4398046511104 ≤ x * 3248660424278399 * 4398046511104 + 2 * J * 2251799813685248
    → (t + J) * 4398046511104 ≤ u * 4398046511104 + 2 * J
    → u * 4398046511104 ≤ (t + J) * 4398046511104 + 2 * J
    → w ≤ u
    → u ≤ w + 2 * J
    → w ≤ 1023 * (2 * J)
    → w * 2977044471 * 4398046511104 ≤ a * 4294967296 * 4398046511104 + 2 * J * 4294967296
    → a * 4294967296 * 4398046511104 ≤ w * 2977044471 * 4398046511104 + 2 * J * 4294967296
    → (x * 16 ≤ a * 16 + 7 * (2 * J)) × (a * 16 ≤ x * 16 + 7 * (2 * J))
bound x t u w a J h1 h2 h3 h4 h5 h6 h7 h8 h9 =
    rough x t u w a J
    (less-than x t J 1442695 1000000 2251799813685248 3248660424278399 4398046511104 (lit< tt) (lit< tt) (lit≤ tt) (lit≤ tt) h1)
    (more-than x t J 1442696 1000000 2251799813685248 3248660424278399 4398046511104 (lit< tt) (lit< tt) (lit≤ tt) (lit≤ tt) h2)
    (half-low t u J h3) (half_high t u J h4) h5 h6 h7
    (less-than w a J 693147 1000000 4294967296 2977044471 4398046511104 (lit< tt) (lit< tt) (lit≤ tt) (lit≤ tt) h8)
    (more-than w a J 693148 1000000 4294967296 2977044471 4398046511104 (lit< tt) (lit< tt) (lit≤ tt) (lit≤ tt) h9)

-- ---- which branch, and what it gives
sign-test : (s : Bool) (m : ℕ) (e : ℤ) → lt (fin s (suc m) e) (w64 0) ≡ s
unfolding lt of_int
sign-test true m e = lt-ltb 0 (suc m * up e * 1 + 0 * down e) (go (suc m * up e) (down e) (mul-pos (zero-lt-suc m) (up_pos e)))
  where
    go : (a d : ℕ) → 0 < a → 0 < a * 1 + 0 * d
    go a d h = omega arith
sign-test false m e = le-ltb (suc m * up e * 1) (0 * down e) (go (suc m * up e) (down e))
  where
    go : (a d : ℕ) → 0 * d ≤ a * 1
    go a d = omega arith

shifted_by : (s : Bool) (m : ℕ) (e : ℤ) → shifted (fin s (suc m) e) ≡ cond s (sub binary64 (mul binary64 (fin s (suc m) e) log2e) half) (add binary64 (mul binary64 (fin s (suc m) e) log2e) half)
shifted_by s m e = ap (λ (b : Bool). cond b (sub binary64 (mul binary64 (fin s (suc m) e) log2e) half) (add binary64 (mul binary64 (fin s (suc m) e) log2e) half)) (sign-test s m e)

half-sum : (s : Bool) (t : Float) (v : ℕ) → HasValue t s v (2 ^ 1074) → cond s (sub binary64 t half) (add binary64 t half) ≡ round binary64 s (v + 2 ^ 1073) (2 ^ 1074 * 1)
unfolding sub of_bits neg
half-sum true t v h = sum-size (2 ^ 1074) (pow_pos 1074) true t (neg half) v (2 ^ 1073) h (refl, refl)
half-sum false t v h = sum-size (2 ^ 1074) (pow_pos 1074) false t half v (2 ^ 1073) h (refl, refl)

-- ---- the whole number k = ± q, and k times the upper part of ln 2
abbrev upper : Float
upper = of_bits binary64 0x3fe6_2e42_fee0_0000

abbrev signed : Bool → ℕ → ℤ
signed true q = neg_ℤ (pos q)
signed false q = pos q

cut-is : (s : Bool) (m : ℕ) (e : ℤ) → m * up e / down e ≤ 1023 → to_signed 63 (fin s m e) ≡ signed s (m * up e / down e)
unfolding to_signed
cut-is true m e h = ap (λ (q : ℕ). neg_ℤ (pos q)) (go (m * up e / down e) h)
  where
    go : (q : ℕ) → q ≤ 1023 → min q (2 ^ 63) ≡ q
    go q h = omega arith
cut-is false m e h = ap pos (go (m * up e / down e) h)
  where
    go : (q : ℕ) → q ≤ 1023 → min q (2 ^ 63 - 1) ≡ q
    go q h = omega arith

-- the size of a, with the sign s, and how near it is
pub record Product (s : Bool) (q : ℕ) (a : Float) : Type 0 where
  pub size : ℕ
  pub value : Is a (cond s 0 size) (cond s size 0) (2 ^ 1074)
  pub low : q * 2 ^ 1074 * 2977044471 * tick ≤ size * 4294967296 * tick + 2 ^ 1074 * 4294967296
  pub high : size * 4294967296 * tick ≤ q * 2 ^ 1074 * 2977044471 * tick + 2 ^ 1074 * 4294967296

-- by the sign
signed-rounds : (s : Bool) (z : Float) (a d : ℕ) → z ≡ round binary64 s a d → Rounds binary64 z (cond s 0 a) (cond s a 0) d
signed-rounds true z a d e = minus-of binary64 z 0 a d a (omega arith) e
signed-rounds false z a d e = plus-of binary64 z a 0 d a (omega arith) e

signed_is : (s : Bool) (z : Float) (a c : ℕ) → HasValue z s a c → Is z (cond s 0 a) (cond s a 0) c
signed_is s nan a c h = absurd h
signed_is s (inf t) a c h = absurd h
signed_is true (fin true m e) a c h = (tt, omega (arith, h.1))
signed_is true (fin false m e) a c h = absurd (false≢true h.0)
signed_is false (fin true m e) a c h = absurd (true≢false h.0)
signed_is false (fin false m e) a c h = (tt, omega (arith, h.1))

small-finite : (s : Bool) (z : Float) (a d : ℕ) → 0 < d → z ≡ round binary64 s a d → a ≤ 2047 * d → T (finite z)
small-finite true z a d D e h = (near z 0 a d D (signed-rounds true z a d e) (omega arith) (omega (arith, h))).is_finite
small-finite false z a d D e h = (near z a 0 d D (signed-rounds false z a d e) (omega (arith, h)) (omega arith)).is_finite

product-by : (s : Bool) (kf : Float) (q : ℕ) → HasValue kf s q 1 → q ≤ 1023 → Product s q (mul binary64 kf upper)
unfolding of_bits
product-by s kf q h l =
    let K = 2 ^ 1074 in
    let v = rescale kf s q 1 (q * K) K (pow_pos 0) (go q K) h in
    let z = mul binary64 kf upper in
    let is : z ≡ round binary64 s (q * K * 2977044471) (K * 4294967296) = mul-size K (pow_pos 1074) s kf (q * K) 2977044471 31 v in
    let b = small q K l in
    let f = small-finite s z (q * K * 2977044471) (K * 4294967296) (pow_pos 1106) is b in
    let r = round-size s (q * K * 2977044471) (K * 4294967296) (subst (λ (x : Float). T (finite x)) is f) in
    let w : HasValue z s r.0 K = subst (λ (x : Float). HasValue x s r.0 K) (sym is) r.1 in
    let n = near-size K (pow_pos 1074) s z r.0 (q * K * 2977044471) 4294967296 (lit< tt) w is b in
    record { size = r.0; value = signed_is s z r.0 K w; low = n.0; high = n.1 }
  where
    go : (q k : ℕ) → q * k * 1 ≡ q * k
    go q k = omega arith

    small : (q k : ℕ) → q ≤ 1023 → q * k * 2977044471 ≤ 2047 * (k * 4294967296)
    small q k h = omega (arith, mul-le-mul_right k h)

product : (s : Bool) (q : ℕ) → q ≤ 1023 → Product s q (mul binary64 (of_int binary64 (signed s q)) upper)
unfolding of_int
product false q h = product-by false (round binary64 false q 1) q (round_whole binary64 false q (omega (arith, h))) h
product true zero h = record { size = 0; value = (unfold mul of_bits in (tt, refl)); low = lit≤ tt; high = lit≤ tt }
product true (suc q) h = product-by true (round binary64 true (suc q) 1) (suc q) (round_whole binary64 true (suc q) (omega (arith, h))) h

-- the whole part of a value with the sign s, below 1024
pub record Cut (s : Bool) (u : Float) (v : ℕ) : Type 0 where
  pub part : ℕ
  pub small : part ≤ 1023
  pub is : to_signed 63 u ≡ signed s part
  pub low : part * 2 ^ 1074 ≤ v
  pub high : v ≤ part * 2 ^ 1074 + 2 ^ 1074

cut : (s : Bool) (u : Float) (v : ℕ) → HasValue u s v (2 ^ 1074) → v < 1024 * 2 ^ 1074 → Cut s u v
cut s nan v h l = absurd h
cut s (inf t) v h l = absurd h
cut true (fin false m e) v h l = absurd (false≢true h.0)
cut false (fin true m e) v h l = absurd (true≢false h.0)
cut true (fin true m e) v h l = cut_at true m e v h l
  where
    cut_at : (s : Bool) (m : ℕ) (e : ℤ) (v : ℕ) → HasValue (fin s m e) s v (2 ^ 1074) → v < 1024 * 2 ^ 1074 → Cut s (fin s m e) v
    cut_at s m e v h l =
        let c = cut-size (2 ^ 1074) (pow_pos 1074) s m e v h in
        let q = m * up e / down e in
        let k : q ≤ 1023 = le_of_suc-le-suc (lt_of_mul-lt-mul_right (2 ^ 1074) (lt_of_le_of_lt c.0 l)) in
        record { part = q; small = k; is = cut-is s m e k; low = c.0; high = c.1 }
cut false (fin false m e) v h l = cut_at false m e v h l
  where
    cut_at : (s : Bool) (m : ℕ) (e : ℤ) (v : ℕ) → HasValue (fin s m e) s v (2 ^ 1074) → v < 1024 * 2 ^ 1074 → Cut s (fin s m e) v
    cut_at s m e v h l =
        let c = cut-size (2 ^ 1074) (pow_pos 1074) s m e v h in
        let q = m * up e / down e in
        let k : q ≤ 1023 = le_of_suc-le-suc (lt_of_mul-lt-mul_right (2 ^ 1074) (lt_of_le_of_lt c.0 l)) in
        record { part = q; small = k; is = cut-is s m e k; low = c.0; high = c.1 }

-- a difference of two values, in sizes
difference : (x a : Float) (xp xn ag an K : ℕ) → 0 < K → Is x xp xn K → Is a ag an K → Rounds binary64 (sub binary64 x a) (xp + an) (xn + ag) K
difference x a xp xn ag an K H (X, i) (A, j) =
    rounds-same binary64 (sub binary64 x a) (P x * den a + N a * den x) (N x * den a + P a * den x) (den x * den a) (xp + an) (xn + ag) K (mul-pos (den_pos x) (den_pos a)) H
    (go (P x) (N x) (den x) (P a) (N a) (den a) i j) (sub-rounds binary64 x a X A)
  where
    go : (p n d q m c : ℕ) → p * K + xn * d ≡ xp * d + n * K → q * K + an * c ≡ ag * c + m * K → (p * c + m * d) * K + (xn + ag) * (d * c) ≡ (xp + an) * (d * c) + (n * c + q * d) * K
    go p n d q m c i j = omega (arith, ap (λ (z : ℕ). z * c) i, ap (λ (z : ℕ). z * d) j)

-- 7 / 16
abbrev pub least : Float
least = fin true 7 (negsuc 3)

abbrev pub greatest : Float
greatest = fin false 7 (negsuc 3)

close : (s : Bool) (z : Float) (v w K : ℕ) → 0 < K → Rounds binary64 z (cond s 0 v + cond s w 0) (cond s v 0 + cond s 0 w) K → v * 16 ≤ w * 16 + 7 * K → w * 16 ≤ v * 16 + 7 * K → In least greatest z
close true z v w K H r h k = record { low = rounds-ge binary64 z least (0 + w) (v + 0) K H tt (unfold fits in tt) r (omega (arith, h)); high = rounds-le binary64 z greatest (0 + w) (v + 0) K H tt (unfold fits in tt) r (omega (arith, k)) }
close false z v w K H r h k = record { low = rounds-ge binary64 z least (v + 0) (0 + w) K H tt (unfold fits in tt) r (omega (arith, k)); high = rounds-le binary64 z greatest (v + 0) (0 + w) K H tt (unfold fits in tt) r (omega (arith, h)) }

-- ---- x = ± (suc m) * 2 ^ e from -708 to 709
module _ (s : Bool) (m : ℕ) (e : ℤ) (F : T (fits binary64 (fin s (suc m) e))) (i : In (neg (w64 708)) (w64 709) (fin s (suc m) e)) where
  abbrev x : Float
  x = fin s (suc m) e

  abbrev K : ℕ
  K = 2 ^ 1074

  abbrev J : ℕ
  J = 2 ^ 1073

  Kp : 0 < K
  Kp = pow_pos 1074

  xv : ℕ
  xv = suc m * 2 ^ (units_of binary64 s m e F).0

  x-size : HasValue x s xv K
  unfolding xv
  x-size = (refl, (units_of binary64 s m e F).1)

  -- at most 709
  x-in : suc m * up e ≤ 709 * down e
  unfolding of_int neg
  x-in = go s i
    where
      go : (s : Bool) → In (neg (w64 708)) (w64 709) (fin s (suc m) e) → suc m * up e ≤ 709 * down e
      go true i = omega (arith, le→Le (neg (w64 708)) (fin true (suc m) e) tt tt i.low)
      go false i = omega (arith, le→Le (fin false (suc m) e) (w64 709) tt tt i.high)

  xv-le : xv ≤ 709 * K
  xv-le = go (suc m * up e) (down e) xv K (down_pos e) x-size.1 x-in
    where
      go : (a d v k : ℕ) → 0 < d → a * k ≡ v * d → a ≤ 709 * d → v ≤ 709 * k
      go a d v k D e h = le_of_mul-le-mul_right {k = d} (omega (arith, e, mul-le-mul_right k h)) D

  -- ---- t
  t : Float
  t = mul binary64 x log2e

  t-is : t ≡ round binary64 s (xv * 3248660424278399) (K * 2251799813685248)
  unfolding t of_bits
  t-is = mul-size K Kp s x xv 3248660424278399 50 x-size

  t-finite : T (finite t)
  unfolding t neg of_int of_bits mul
  t-finite = in-finite {lo = mul binary64 (neg (w64 708)) log2e} {hi = mul binary64 (w64 709) log2e} {x = mul binary64 x log2e} tt tt (t-in x i)

  t-size : (v : ℕ) × HasValue t s v K
  t-size =
      let r = round-size s (xv * 3248660424278399) (K * 2251799813685248) (subst (λ (z : Float). T (finite z)) t-is t-finite) in
      (r.0, subst (λ (z : Float). HasValue z s r.0 K) (sym t-is) r.1)

  tv : ℕ
  tv = t-size.0

  t-near : (xv * 3248660424278399 * tick ≤ tv * 2251799813685248 * tick + K * 2251799813685248) × (tv * 2251799813685248 * tick ≤ xv * 3248660424278399 * tick + K * 2251799813685248)
  unfolding tv
  t-near = near-size K Kp s t tv (xv * 3248660424278399) 2251799813685248 (lit< tt) t-size.1 t-is (go xv K xv-le)
    where
      go : (v k : ℕ) → v ≤ 709 * k → v * 3248660424278399 ≤ 2047 * (k * 2251799813685248)
      go v k h = omega arith

  tv-le : tv * 1000000 ≤ xv * 1442696 + K
  tv-le = more-than xv tv J 1442696 1000000 2251799813685248 3248660424278399 tick (lit< tt) (lit< tt) (lit≤ tt) (lit≤ tt) t-near.1

  -- ---- u
  u : Float
  u = shifted x

  u-is : u ≡ round binary64 s (tv + J) (K * 1)
  unfolding u t tv
  u-is = shifted_by s m e ∙ half-sum s t tv t-size.1

  u-finite : T (finite u)
  unfolding u
  u-finite = in-finite {lo = lo} {hi = hi} {x = shifted x} tt tt (shifted_in x i)

  u-size : (v : ℕ) × HasValue u s v K
  u-size =
      let r = round-size s (tv + J) (K * 1) (subst (λ (z : Float). T (finite z)) u-is u-finite) in
      (r.0, subst (λ (z : Float). HasValue z s r.0 K) (sym u-is) r.1)

  uv : ℕ
  uv = u-size.0

  u-near : ((tv + J) * tick ≤ uv * 1 * tick + K * 1) × (uv * 1 * tick ≤ (tv + J) * tick + K * 1)
  unfolding uv
  u-near = near-size K Kp s u uv (tv + J) 1 (lit< tt) u-size.1 u-is (go xv tv J xv-le tv-le)
    where
      go : (v w j : ℕ) → v ≤ 709 * (2 * j) → w * 1000000 ≤ v * 1442696 + 2 * j → w + j ≤ 2047 * (2 * j * 1)
      go v w j h k = omega arith

  u-cut : Cut s u uv
  unfolding uv
  u-cut = cut s u uv u-size.1 (go xv tv uv J (pow_pos 1073) xv-le tv-le u-near.1)
    where
      go : (v w z j : ℕ) → 0 < j → v ≤ 709 * (2 * j) → w * 1000000 ≤ v * 1442696 + 2 * j → z * 1 * tick ≤ (w + j) * tick + 2 * j * 1 → z < 1024 * (2 * j)
      go v w z j J0 h k l = fine v w z j J0 h k (half_high w z j (omega (arith, l)))
        where
          fine : (v w z j : ℕ) → 0 < j → v ≤ 709 * (2 * j) → w * 1000000 ≤ v * 1442696 + 2 * j → z * 1000 ≤ (w + j) * 1000 + j → z < 1024 * (2 * j)
          fine v w z j J0 h k l = omega arith

  -- ---- x - k * (the upper part of ln 2)
  pub y-in : In least greatest (sub binary64 x (mul binary64 (of_int binary64 (to_signed 63 (shifted x))) upper))
  unfolding u
  y-in =
      let c = u-cut in
      let q = c.part in
      let p = product s q c.small in
      let a = mul binary64 (of_int binary64 (signed s q)) upper in
      let b = bound xv tv uv (q * K) p.size J t-near.0 t-near.1 (one-low tv uv J K u-near.0) (one-high tv uv J K u-near.1) c.low c.high (mul-le-mul_right K c.small) p.low p.high in
      subst (λ (k : ℤ). In least greatest (sub binary64 x (mul binary64 (of_int binary64 k) upper))) (sym c.is)
      (close s (sub binary64 x a) xv p.size K Kp (difference x a (cond s 0 xv) (cond s xv 0) (cond s 0 p.size) (cond s p.size 0) K Kp (signed_is s x xv K x-size) p.value) b.0 b.1)
