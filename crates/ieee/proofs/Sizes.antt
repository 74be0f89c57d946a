-- A value of binary64 as a sign and a size, a whole number of 2 ^ -1074: what the operations of `reduced` do to sizes. Assumes nothing.
use mathlib.Core.Path.{◌≡◌, refl, sym, ap, subst}
use Prim.Native.Nat.{ℕ, suc, ◌+◌, ◌*◌, ◌/◌, ◌^◌, ◌≤◌, ◌<◌}
use native.Mathlib.Nat.{le_of_mul-le-mul_right, mul-le-mul_right, mul-pos, div-mul-le_self, lt-div-mul-add}
use native.Mathlib.Omega.{arith}
use mathlib.Core.Bool.{Bool, true, false, not, cond, true≢false, false≢true}
use lib.Dec.{T}
use lib.Pow.{pow_pos}
use lib.IntN.{ℤ, negsuc}
use lib.Ieee.{Float, nan, inf, fin, binary64, up, down, round, sum, add, mul, neg}
use lib.Ieee.Fits.{down_pos}
use lib.Ieee.Exact.{HasValue}
use lib.Ieee.Scale.{finite, round_same, round_val, round_under, grid}
use lib.Ieee.Positive.{den, den_pos}
use Rattle.ieee.proofs.Value.{P, N}
use Rattle.ieee.proofs.Rounds.{plus-of, minus-of, round-neg}
use Rattle.ieee.proofs.RoundingError.{tick, near}

abbrev pub K : ℕ
K = 2 ^ 1074

abbrev pub Size : Bool → Float → ℕ → Type 0
Size s x v = HasValue x s v K

has-neg : (s : Bool) (x : Float) (a c : ℕ) → HasValue x s a c → HasValue (neg x) (not s) a c
unfolding neg
has-neg s nan a c h = h
has-neg s (inf t) a c h = h
has-neg s (fin t m e) a c h = (ap not h.0, h.1)

finite-neg : (x : Float) → T (finite (neg x)) → T (finite x)
unfolding neg
finite-neg nan t = t
finite-neg (inf s) t = t
finite-neg (fin s m e) t = t

-- what is finite and was rounded with the sign s has that sign and a size
pub round-size : (s : Bool) (a d : ℕ) → T (finite (round binary64 s a d)) → (v : ℕ) × Size s (round binary64 s a d) v
round-size false a d h = (grid binary64 a d, round_val binary64 a d (round_under binary64 a d h))
round-size true a d h =
    let e = round-neg binary64 false a d in
    let h' : T (finite (round binary64 false a d)) = finite-neg (round binary64 false a d) (subst (λ (x : Float). T (finite x)) e h) in
    (grid binary64 a d, subst (λ (x : Float). Size true x (grid binary64 a d)) (sym e) (has-neg false (round binary64 false a d) (grid binary64 a d) K (round_val binary64 a d (round_under binary64 a d h'))))

-- ---- the rounding of ± a / (K * c), in sizes: within 2 ^ -42
module _ (K : ℕ) (Kp : 0 < K) where
  parts : (s : Bool) (z : Float) (v : ℕ) → HasValue z s v K → (cond s (N z) (P z) * K ≡ v * den z) × (cond s (P z) (N z) ≡ 0)
  parts s nan v h = absurd h
  parts s (inf t) v h = absurd h
  parts true (fin true m e) v h = (h.1, refl)
  parts true (fin false m e) v h = absurd (false≢true h.0)
  parts false (fin true m e) v h = absurd (true≢false h.0)
  parts false (fin false m e) v h = (h.1, refl)

  turn : (v a c D Q M : ℕ) → 0 < D → Q * K ≡ v * D → M ≡ 0 → a * tick * D + M * tick * (K * c) ≤ Q * tick * (K * c) + 0 * tick * D + K * c * D → a * tick ≤ v * c * tick + K * c
  turn v a c D Q M H e z h = le_of_mul-le-mul_right {k = D} (omega (arith, h, ap (λ (x : ℕ). x * (tick * c)) e)) H

  turn' : (v a c D Q M : ℕ) → 0 < D → Q * K ≡ v * D → M ≡ 0 → Q * tick * (K * c) + 0 * tick * D ≤ a * tick * D + M * tick * (K * c) + K * c * D → v * c * tick ≤ a * tick + K * c
  turn' v a c D Q M H e z h = le_of_mul-le-mul_right {k = D} (omega (arith, h, ap (λ (x : ℕ). x * (tick * c)) e, ap (λ (x : ℕ). x * (tick * (K * c))) z)) H

  pub near-size : (s : Bool) (z : Float) (v a c : ℕ) → 0 < c → HasValue z s v K → z ≡ round binary64 s a (K * c) → a ≤ 2047 * (K * c) → (a * tick ≤ v * c * tick + K * c) × (v * c * tick ≤ a * tick + K * c)
  near-size false z v a c C h e l =
      let D = mul-pos Kp C in
      let n = near z a 0 (K * c) D (plus-of binary64 z a 0 (K * c) a (omega arith) e) (omega (arith, l)) (omega arith) in
      let p = parts false z v h in
      (turn v a c (den z) (P z) (N z) (den_pos z) p.0 p.1 n.low, turn' v a c (den z) (P z) (N z) (den_pos z) p.0 p.1 n.high)
  near-size true z v a c C h e l =
      let D = mul-pos Kp C in
      let n = near z 0 a (K * c) D (minus-of binary64 z 0 a (K * c) a (omega arith) e) (omega arith) (omega (arith, l)) in
      let p = parts true z v h in
      (turn v a c (den z) (N z) (P z) (den_pos z) p.0 p.1 (omega (arith, n.high)), turn' v a c (den z) (N z) (P z) (den_pos z) p.0 p.1 (omega (arith, n.low)))

  -- ---- a product with a constant m / 2 ^ n, and a sum of two values of one sign
  pub mul-size : (s : Bool) (x : Float) (v m n : ℕ) → HasValue x s v K → mul binary64 x (fin false m (negsuc n)) ≡ round binary64 s (v * m) (K * 2 ^ suc n)
  unfolding mul
  mul-size s nan v m n h = absurd h
  mul-size s (inf t) v m n h = absurd h
  mul-size true (fin false k d) v m n h = absurd (false≢true h.0)
  mul-size false (fin true k d) v m n h = absurd (true≢false h.0)
  mul-size true (fin true k d) v m n h = round_same binary64 true (k * up d * (m * 1)) (down d * 2 ^ suc n) (v * m) (K * 2 ^ suc n) (mul-pos (down_pos d) (pow_pos (suc n))) (mul-pos Kp (pow_pos (suc n))) (omega (arith, ap (λ (x : ℕ). x * (m * 2 ^ suc n)) h.1))
  mul-size false (fin false k d) v m n h = round_same binary64 false (k * up d * (m * 1)) (down d * 2 ^ suc n) (v * m) (K * 2 ^ suc n) (mul-pos (down_pos d) (pow_pos (suc n))) (mul-pos Kp (pow_pos (suc n))) (omega (arith, ap (λ (x : ℕ). x * (m * 2 ^ suc n)) h.1))

  pub sum-size : (s : Bool) (x y : Float) (v w : ℕ) → HasValue x s v K → HasValue y s w K → add binary64 x y ≡ round binary64 s (v + w) (K * 1)
  unfolding add sum
  sum-size s nan y v w p q = absurd p
  sum-size s (inf t) y v w p q = absurd p
  sum-size s (fin t m e) nan v w p q = absurd q
  sum-size s (fin t m e) (inf u) v w p q = absurd q
  sum-size true (fin false m e) (fin u n d) v w p q = absurd (false≢true p.0)
  sum-size false (fin true m e) (fin u n d) v w p q = absurd (true≢false p.0)
  sum-size true (fin true m e) (fin false n d) v w p q = absurd (false≢true q.0)
  sum-size false (fin false m e) (fin true n d) v w p q = absurd (true≢false q.0)
  sum-size true (fin true m e) (fin true n d) v w p q =
      round_same binary64 true (m * up e * down d + n * up d * down e) (down e * down d) (v + w) (K * 1) (mul-pos (down_pos e) (down_pos d)) (mul-pos Kp (pow_pos 0)) (omega (arith, ap (λ (x : ℕ). x * down d) p.1, ap (λ (x : ℕ). x * down e) q.1))
  sum-size false (fin false m e) (fin false n d) v w p q =
      round_same binary64 false (m * up e * down d + n * up d * down e) (down e * down d) (v + w) (K * 1) (mul-pos (down_pos e) (down_pos d)) (mul-pos Kp (pow_pos 0)) (omega (arith, ap (λ (x : ℕ). x * down d) p.1, ap (λ (x : ℕ). x * down e) q.1))

  -- ---- the whole part of a size
  pub cut-size : (s : Bool) (m : ℕ) (e : ℤ) (v : ℕ) → HasValue (fin s m e) s v K → (m * up e / down e * K ≤ v) × (v ≤ m * up e / down e * K + K)
  cut-size s m e v h =
      let q = m * up e / down e in
      (low (m * up e) (down e) q (down_pos e) h.1 (div-mul-le_self (m * up e) (down e)), high (m * up e) (down e) q (down_pos e) h.1 (lt-div-mul-add {a = m * up e} {b = down e} (down_pos e)))
    where
      low : (a d q : ℕ) → 0 < d → a * K ≡ v * d → q * d ≤ a → q * K ≤ v
      low a d q D e h = le_of_mul-le-mul_right {k = d} (omega (arith, e, mul-le-mul_right K h)) D

      high : (a d q : ℕ) → 0 < d → a * K ≡ v * d → a < q * d + d → v ≤ q * K + K
      high a d q D e h = le_of_mul-le-mul_right {k = d} (omega (arith, e, mul-le-mul_right {m = a} {n = q * d + d} K (omega (arith, h)))) D
