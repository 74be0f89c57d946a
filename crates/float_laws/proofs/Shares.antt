-- A share p + 0.3 * (ok - p) stays in [0, 1] for p and ok in [0, 1], at every f32. Assumes nothing.
use mathlib.Core.Path.{◌≡◌, ◌∙◌}
use Prim.Native.Nat.{ℕ, ◌+◌, ◌*◌, ◌≤◌}
use native.Mathlib.Nat.{mul-le-mul_right, mul-pos}
use native.Mathlib.Omega.{arith}
use mathlib.Core.Bool.{Bool, true, false, not}
use lib.Dec.{T}
use lib.IntN.{pos, negsuc}
use lib.Ieee.{Float, fin, Format, binary32, le, lt, neg, add, sub, mul, fits, of_int, of_bits, is_nan}
use lib.Ieee.Fits.{sub-fits, neg-fits}
use lib.Ieee.Scale.{finite}
use lib.Ieee.Positive.{den, den_pos, between}
use Rattle.ieee.specs.Range.{In, w32}
use Rattle.float.specs.Gear.{success_weight, share}
use Rattle.ieee.proofs.Value.{P, N, Under, le→Le, le_trans, le_refl, not-lt→le, lt→le, finite-no-nan, finite-between}
use Rattle.ieee.proofs.Rounds.{add_rounds, sub-rounds, mul-rounds, neg-finite, neg-parts}
use Rattle.ieee.proofs.Representable.{rounds-le, rounds-ge}
use Rattle.ieee.proofs.Mono.{null, not_negative, add-mono, sub-mono, mul_mono}
use Rattle.ieee.proofs.Bounds.{in-finite, sub_in}
use Rattle.ieee.proofs.Exact.{Is, sub-exact}

abbrev pub one : Float
one = fin false 1 (pos 0)

-- ---- a factor w from 0 to 1 takes x no further from zero
module _ (f : Format) (w x : Float) (W : T (finite w)) (X : T (finite x)) (F : T (fits f x)) (w-ge : T (le null w)) (w_le : T (le w one)) where
  small : P w ≤ den w
  small = go (P w) (N w) (den w) (not_negative w W w-ge) (le→Le w one W tt w_le)
    where
      go : (p n d : ℕ) → n ≡ 0 → p * 1 + 0 * d ≤ 1 * d + n * 1 → p ≤ d
      go p n d e h = omega arith

  pub shrink-high : T (le null x) → T (le (mul f w x) x)
  shrink-high h =
      rounds-le f (mul f w x) x _ _ _ (mul-pos (den_pos w) (den_pos x)) X F (mul-rounds f w x W X)
      (go (P w) (N w) (den w) (P x) (N x) (den x) (not_negative w W w-ge) (not_negative x X h) small)
    where
      go : (p n d q m c : ℕ) → n ≡ 0 → m ≡ 0 → p ≤ d → Under (p * q + n * m) (p * m + n * q) (d * c) q m c
      go p n d q m c a b h = rw (a, b) (omega (arith, mul-le-mul_right (q * c) h))

  pub shrink-low : P x ≡ 0 → T (le x (mul f w x))
  shrink-low h =
      rounds-ge f (mul f w x) x _ _ _ (mul-pos (den_pos w) (den_pos x)) X F (mul-rounds f w x W X)
      (go (P w) (N w) (den w) (P x) (N x) (den x) (not_negative w W w-ge) h small)
    where
      go : (p n d q m c : ℕ) → n ≡ 0 → q ≡ 0 → p ≤ d → Under q m c (p * q + n * m) (p * m + n * q) (d * c)
      go p n d q m c a b h = rw (a, b) (omega (arith, mul-le-mul_right (m * c) h))

-- ---- the share
module _ (p ok : Float) (F : T (fits binary32 p)) (i : In (w32 0) (w32 1) p) (j : In (w32 0) (w32 1) ok) where
  p-finite : T (finite p)
  unfolding of_int
  p-finite = in-finite {lo = w32 0} {hi = w32 1} {x = p} tt tt i

  ok-finite : T (finite ok)
  unfolding of_int
  ok-finite = in-finite {lo = w32 0} {hi = w32 1} {x = ok} tt tt j

  np : N p ≡ 0
  unfolding of_int
  np = not_negative p p-finite i.low

  nok : N ok ≡ 0
  unfolding of_int
  nok = not_negative ok ok-finite j.low

  t : Float
  t = sub binary32 ok p

  -- ok - p lies in [-1, 1]
  t-in : In (neg (w32 1)) (w32 1) t
  unfolding of_int sub neg t
  t-in = sub_in binary32 (w32 0) (w32 1) (w32 0) (w32 1) ok p tt tt tt tt j i

  t-finite : T (finite t)
  unfolding of_int neg
  t-finite = in-finite {lo = neg (w32 1)} {hi = w32 1} {x = t} tt tt t-in

  -- -p ≤ ok - p
  t-low : T (le (neg p) t)
  unfolding t
  t-low =
      rounds-ge binary32 (sub binary32 ok p) (neg p) _ _ _ (mul-pos (den_pos ok) (den_pos p)) (neg-finite p p-finite) (neg-fits binary32 p F) (sub-rounds binary32 ok p ok-finite p-finite)
      (rw ((neg-parts p).0, (neg-parts p).1, (neg-parts p).2, np, nok) (omega arith))

  weight-ge : T (le null success_weight)
  unfolding of_bits le
  weight-ge = tt

  weight-le : T (le success_weight one)
  unfolding of_bits le
  weight-le = tt

  weight-finite : T (finite success_weight)
  unfolding of_bits
  weight-finite = tt

  u : Float
  u = mul binary32 success_weight t

  -- -p ≤ 0.3 * (ok - p)
  u-low : T (le (neg p) u)
  unfolding u
  u-low =
      le_trans (neg p) (mul binary32 success_weight (neg p)) (mul binary32 success_weight t)
      (shrink-low binary32 success_weight (neg p) weight-finite (neg-finite p p-finite) (neg-fits binary32 p F) weight-ge weight-le ((neg-parts p).0 ∙ np))
      (mul_mono binary32 success_weight (neg p) t weight-finite (neg-finite p p-finite) t-finite weight-ge t-low)

  u-high : T (le u success_weight)
  unfolding u of_int of_bits
  u-high = le_trans (mul binary32 success_weight t) (mul binary32 success_weight (w32 1)) success_weight (mul_mono binary32 success_weight t (w32 1) weight-finite t-finite tt weight-ge t-in.high) (unfold le mul in tt)

  u-finite : T (finite u)
  u-finite = finite-between (neg p) u success_weight (neg-finite p p-finite) weight-finite u-low u-high

  low : T (le null (add binary32 p u))
  low =
      le_trans null (add binary32 p (neg p)) (add binary32 p u)
      (rounds-ge binary32 (add binary32 p (neg p)) null _ _ _ (mul-pos (den_pos p) (den_pos (neg p))) tt (unfold fits in tt) (add_rounds binary32 p (neg p) p-finite (neg-finite p p-finite))
      (rw ((neg-parts p).0, (neg-parts p).1, (neg-parts p).2) (omega arith)))
      (add-mono binary32 p p (neg p) u p-finite p-finite (neg-finite p p-finite) u-finite (le_refl p (finite-no-nan p p-finite)) u-low)

  abbrev half : Float
  half = fin false 1 (negsuc 0)

  high_small : T (le p half) → T (le (add binary32 p u) one)
  unfolding of_bits
  high_small h =
      le_trans (add binary32 p u) (add binary32 half success_weight) one
      (add-mono binary32 p half u success_weight p-finite tt u-finite tt h u-high) (unfold le add in tt)

  q : Float
  q = sub binary32 one p

  q-in : In (w32 0) (w32 1) q
  unfolding of_int sub q
  q-in = sub_in binary32 (w32 1) (w32 1) (w32 0) (w32 1) (w32 1) p tt tt tt tt (unfold le in record { low = tt; high = tt }) i

  q-finite : T (finite q)
  unfolding of_int
  q-finite = in-finite {lo = w32 0} {hi = w32 1} {x = q} tt tt q-in

  q-is : T (le half p) → Is q (1 * den p) (P p * 1) (1 * den p)
  unfolding q of_int
  q-is h =
      sub-exact binary32 one p tt (between half p one tt tt h i.high) (unfold fits in tt) F
      (omega (arith, le→Le p one p-finite tt i.high, np)) (omega (arith, le→Le half p tt p-finite h))

  high-large : T (le half p) → T (le (add binary32 p u) one)
  unfolding t u q of_int
  high-large h =
      let w-q = mul binary32 success_weight q in
      let u-le : T (le u q) = le_trans u w-q q
      (mul_mono binary32 success_weight t q weight-finite t-finite q-finite weight-ge (sub-mono binary32 ok one p p ok-finite tt p-finite p-finite j.high (le_refl p (finite-no-nan p p-finite))))
      (shrink-high binary32 success_weight q weight-finite q-finite (sub-fits binary32 one p) weight-ge weight-le q-in.low) in
      le_trans (add binary32 p u) (add binary32 p q) one
      (add-mono binary32 p p u q p-finite p-finite u-finite q-finite (le_refl p (finite-no-nan p p-finite)) u-le)
      (rounds-le binary32 (add binary32 p q) one _ _ _ (mul-pos (den_pos p) (den_pos q)) tt (unfold fits in tt) (add_rounds binary32 p q p-finite q-finite)
      (go (P p) (N p) (den p) (P q) (N q) (den q) (q-is h).1))
    where
      go : (p n d q m c : ℕ) → q * (1 * d) + p * 1 * c ≡ 1 * d * c + m * (1 * d) → Under (p * c + q * d) (n * c + m * d) (d * c) 1 0 1
      go p n d q m c h = omega arith

  high : T (le (add binary32 p u) one)
  high = go (lt p half) (lt→le p half) (not-lt→le p half (finite-no-nan p p-finite) (unfold is_nan in tt))
    where
      go : (b : Bool) → (T b → T (le p half)) → (T (not b) → T (le half p)) → T (le (add binary32 p u) one)
      go true x y = high_small (x tt)
      go false x y = high-large (y tt)

  pub share_in : In (w32 0) (w32 1) (share p ok)
  unfolding of_int t u
  share_in = record { low = low; high = high }
