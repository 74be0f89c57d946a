-- How far a rounding to binary64 can be from its fraction: for a fraction of at most 2047 either way, at most 2 ^ -42. The multiples of 2 ^ -42 up to there are values of the format,
-- so the rounding lies between the two that the fraction lies between. Assumes nothing.
use mathlib.Core.Path.{◌≡◌, refl, sym, ap, ◌∙◌, subst}
use Prim.Native.Nat.{ℕ, ◌+◌, ◌-◌, ◌*◌, ◌/◌, ◌^◌, ◌≤◌, ◌<◌}
use native.Mathlib.Nat.{mul_assoc, lt_of_lt_of_le, le_of_mul-le-mul_right, mul-le-mul_right, div-mul-le_self, lt-div-mul-add, mul-lt-mul_of_pos_right, add-sub_of_le}
use native.Mathlib.Omega.{arith}
use mathlib.Core.Bool.{true, false}
use lib.Dec.{T, lit≤}
use lib.Pow.{pow_pos}
use lib.Ieee.{Float, nan, inf, fin, binary64, round, le, neg}
use lib.Ieee.Fits.{round-fits}
use lib.Ieee.Exact.{round_exact}
use lib.Ieee.Scale.{finite}
use lib.Ieee.Positive.{den, den_pos}
use Rattle.ieee.proofs.Value.{P, N, le→Le, finite-between}
use Rattle.ieee.proofs.Rounds.{Rounds, plus, minus, plus-of, round-neg, neg-finite, neg-parts}
use Rattle.ieee.proofs.Representable.{rounds-le, rounds-ge}
use Rattle.ieee.proofs.Exact.{Is, is-of-value}

abbrev pub tick : ℕ
tick = 4398046511104

-- i * 2 ^ -42
grid : ℕ → Float
grid i = round binary64 false i tick

grid-is : (i : ℕ) → i < 9007199254740992 → Is (grid i) i 0 tick
unfolding grid
grid-is i h = is-of-value (round binary64 false i tick) i tick (round_exact binary64 false i tick i 1032 (pow_pos 42) h (lt_of_lt_of_le (mul-lt-mul_of_pos_right {k = 2 ^ 1032} h (pow_pos 1032)) (lit≤ tt)) (sym (mul_assoc i (2 ^ 1032) tick)))

-- ---- a fraction p / d that is not negative
module _ (z : Float) (p d : ℕ) (D : 0 < d) (r : Rounds binary64 z p 0 d) (small : p ≤ 2047 * d) where
  i : ℕ
  i = p * tick / d

  i-low : i * d ≤ p * tick
  unfolding i
  i-low = div-mul-le_self (p * tick) d

  i-high : p * tick < i * d + d
  unfolding i
  i-high = lt-div-mul-add {a = p * tick} {b = d} D

  i-small : i ≤ 2047 * tick
  i-small = le_of_mul-le-mul_right {k = d} (omega (arith, i-low, mul-le-mul_right tick small)) D

  -- the two neighbours
  below : T (le (grid i) z)
  below =
      let g = grid-is i (omega (arith, i-small)) in
      rounds-ge binary64 z (grid i) p 0 d D g.0 (fits-grid i) r (go (P (grid i)) (N (grid i)) (den (grid i)) g.1)
    where
      fits-grid : (i : ℕ) → T (lib.Ieee.fits binary64 (grid i))
      fits-grid i = unfold grid in round-fits binary64 false i tick

      go : (P N C : ℕ) → P * tick + 0 * C ≡ i * C + N * tick → P * d + 0 * C ≤ p * C + N * d
      go P N C e = le_of_mul-le-mul_right {k = tick} (omega (arith, ap (λ (x : ℕ). x * d) e, mul-le-mul_right C i-low)) (pow_pos 42)

  above : T (le z (grid (i + 1)))
  above =
      let g = grid-is (i + 1) (omega (arith, i-small)) in
      rounds-le binary64 z (grid (i + 1)) p 0 d D g.0 (unfold grid in round-fits binary64 false (i + 1) tick) r (go (P (grid (i + 1))) (N (grid (i + 1))) (den (grid (i + 1))) g.1)
    where
      go : (P N C : ℕ) → P * tick + 0 * C ≡ (i + 1) * C + N * tick → p * C + N * d ≤ P * d + 0 * C
      go P N C e = le_of_mul-le-mul_right {k = tick} (omega (arith, ap (λ (x : ℕ). x * d) e, mul-le-mul_right {m = p * tick} {n = i * d + d} C (omega (arith, i-high)))) (pow_pos 42)

  z-finite : T (finite z)
  z-finite = finite-between (grid i) z (grid (i + 1)) (grid-is i (omega (arith, i-small))).0 (grid-is (i + 1) (omega (arith, i-small))).0 below above

  near-low : p * tick * den z + N z * tick * d ≤ P z * tick * d + d * den z
  near-low =
      let g = grid-is i (omega (arith, i-small)) in
      go (P z) (N z) (den z) (P (grid i)) (N (grid i)) (den (grid i)) (den_pos (grid i)) g.1 (le→Le (grid i) z g.0 z-finite below)
    where
      go : (P N C Q M B : ℕ) → 0 < B → Q * tick + 0 * B ≡ i * B + M * tick → Q * C + N * B ≤ P * B + M * C → p * tick * C + N * tick * d ≤ P * tick * d + d * C
      go P N C Q M B H e h =
          let k : i * C + N * tick ≤ P * tick = le_of_mul-le-mul_right {k = B} (omega (arith, ap (λ (x : ℕ). x * C) e, mul-le-mul_right tick h)) H in
          omega (arith, mul-le-mul_right d k, mul-le-mul_right {m = p * tick} {n = i * d + d} C (omega (arith, i-high)))

  near-high : P z * tick * d ≤ p * tick * den z + N z * tick * d + d * den z
  near-high =
      let g = grid-is (i + 1) (omega (arith, i-small)) in
      go (P z) (N z) (den z) (P (grid (i + 1))) (N (grid (i + 1))) (den (grid (i + 1))) (den_pos (grid (i + 1))) g.1 (le→Le z (grid (i + 1)) z-finite g.0 above)
    where
      go : (P N C Q M B : ℕ) → 0 < B → Q * tick + 0 * B ≡ (i + 1) * B + M * tick → P * B + M * C ≤ Q * C + N * B → P * tick * d ≤ p * tick * C + N * tick * d + d * C
      go P N C Q M B H e h =
          let k : P * tick ≤ (i + 1) * C + N * tick = le_of_mul-le-mul_right {k = B} (omega (arith, ap (λ (x : ℕ). x * C) e, mul-le-mul_right tick h)) H in
          omega (arith, mul-le-mul_right d k, mul-le-mul_right C i-low)

-- ---- a fraction (p - n) / d of any sign: it is no more than z + 2 ^ -42, and z no more than it + 2 ^ -42
pub record Near (z : Float) (p n d : ℕ) : Type 0 where
  pub is_finite : T (finite z)
  pub low : p * tick * den z + N z * tick * d ≤ P z * tick * d + n * tick * den z + d * den z
  pub high : P z * tick * d + n * tick * den z ≤ p * tick * den z + N z * tick * d + d * den z

neg-neg : (x : Float) → neg (neg x) ≡ x
unfolding neg
neg-neg nan = refl
neg-neg (inf true) = refl
neg-neg (inf false) = refl
neg-neg (fin true m e) = refl
neg-neg (fin false m e) = refl

pub near : (z : Float) (p n d : ℕ) → 0 < d → Rounds binary64 z p n d → p ≤ n + 2047 * d → n ≤ p + 2047 * d → Near z p n d
near z p n d D (plus a e) h k = go (p - n) (add-sub_of_le a) (plus-of binary64 z (p - n) 0 d (p - n) (omega arith) e)
  where
    go : (w : ℕ) → n + w ≡ p → Rounds binary64 z w 0 d → Near z p n d
    go w q r =
        let s : w ≤ 2047 * d = omega (arith, h) in
        let e' = ap (λ (x : ℕ). x * (tick * den z)) q in
        record { is_finite = z-finite z w d D r s; low = omega (arith, near-low z w d D r s, e'); high = omega (arith, near-high z w d D r s, e') }
near z p n d D (minus a e) h k = go (n - p) (add-sub_of_le a) (plus-of binary64 (neg z) (n - p) 0 d (n - p) (omega arith) (ap neg e ∙ sym (round-neg binary64 true (n - p) d)))
  where
    go : (w : ℕ) → p + w ≡ n → Rounds binary64 (neg z) w 0 d → Near z p n d
    go w q r =
        let s : w ≤ 2047 * d = omega (arith, k) in
        let f = neg-parts z in
        let e' = ap (λ (x : ℕ). x * (tick * den z)) q in
        let l = rw (f.0, f.1, f.2) at (near-low (neg z) w d D r s) in
        let m = rw (f.0, f.1, f.2) at (near-high (neg z) w d D r s) in
        record {
          is_finite = subst (λ (x : Float). T (finite x)) (neg-neg z) (neg-finite (neg z) (z-finite (neg z) w d D r s));
          low = omega (arith, m, e');
          high = omega (arith, l, e');
        }
