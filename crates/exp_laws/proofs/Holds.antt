-- The hold: from n = 20 on it is the cap, and it never passes the cap. Assumes nothing.
use mathlib.Core.Path.{◌≡◌, refl, ap, ◌∙◌}
use Prim.Native.Nat.{ℕ, ◌+◌, ◌*◌, ◌^◌, ◌≤◌}
use native.Mathlib.Nat.{mul-pos, mul-le-mul}
use native.Mathlib.Omega.{arith}
use mathlib.Core.Bool.{Bool, cond}
use lib.Dec.{T}
use lib.Pow.{pow_mono}
use lib.IntN.{pos}
use lib.Ieee.{Float, binary64, le, lt, mul, fits, of_int, is_nan}
use lib.Ieee.Bits.{is_true}
use lib.Ieee.Scale.{finite}
use lib.Ieee.Positive.{den, den_pos}
use Rattle.ieee.specs.Range.{In, w64}
use Rattle.ieee.specs.Power.{power}
use Rattle.float.specs.Pick.{min_f}
use Rattle.exp.specs.Hold.{hold_of}
use Rattle.ieee.proofs.Value.{P, N, Under, le→Le, le-lt, lt-le, le_trans, le-no-nan, finite-no-nan}
use Rattle.ieee.proofs.Rounds.{mul-rounds}
use Rattle.ieee.proofs.Representable.{rounds-ge}
use Rattle.ieee.proofs.Mono.{null, not_negative}
use Rattle.ieee.proofs.Bounds.{in-finite}
use Rattle.float_laws.proofs.MinMax.{min-le, min-is, min-keeps}

module _ (first cap : Float) (i : In (w64 1) (w64 100000) first) (j : In (w64 0) (w64 1000000) cap) where
  F : T (finite first)
  unfolding of_int
  F = in-finite {lo = w64 1} {hi = w64 100000} {x = first} tt tt i

  C : T (finite cap)
  unfolding of_int
  C = in-finite {lo = w64 0} {hi = w64 1000000} {x = cap} tt tt j

  -- first * 2 ^ n is no less than 2 ^ k, for k ≤ n
  grown : (k n : ℕ) → k ≤ n → T (finite (power (pos k))) → T (fits binary64 (power (pos k))) → T (le (power (pos k)) (mul binary64 first (power (pos n))))
  unfolding of_int
  grown k n h f g =
      rounds-ge binary64 (mul binary64 first (power (pos n))) (power (pos k)) _ _ _ (mul-pos (den_pos first) (den_pos (power (pos n)))) f g (mul-rounds binary64 first (power (pos n)) F tt)
      (go (P first) (N first) (den first) (2 ^ k) (2 ^ n) (not_negative first F (le_trans null (w64 1) first (unfold le in tt) i.low)) (le→Le (w64 1) first tt F i.low) (pow_mono h))
    where
      go : (p m d a b : ℕ) → m ≡ 0 → 1 * d + m * 1 ≤ p * 1 + 0 * d → a ≤ b → Under (1 * a) 0 1 (p * (1 * b) + m * 0) (p * 0 + m * (1 * b)) (d * 1)
      go p m d a b e h l =
          let h' : d ≤ p = omega (arith, e, h) in
          omega (arith, mul-le-mul l h', ap (λ (x : ℕ). x * b) e)

  -- nothing tells the counts from 20 up apart
  pub hold-capped : (n : ℕ) → 20 ≤ n → hold_of first n cap ≡ cap
  unfolding of_int
  hold-capped n h =
      let y = mul binary64 first (power (pos n)) in
      min-is y cap (le-no-nan (power (pos 20)) y (grown 20 n h tt (unfold fits in tt))).1
      ∙ ap (λ (b : Bool). cond b cap y)
      (is_true (lt cap y) (le-lt cap (w64 1000000) y j.high (lt-le (w64 1000000) (power (pos 20)) y (unfold lt in tt) (grown 20 n h tt (unfold fits in tt)))))

  -- and the hold is in the cap's range
  pub hold-in : (n : ℕ) → In (w64 0) cap (hold_of first n cap)
  unfolding of_int
  hold-in n =
      let y = mul binary64 first (power (pos n)) in
      let g = grown 0 n (omega arith) tt (unfold fits in tt) in
      let y-ge = le_trans (w64 0) (power (pos 0)) y (unfold le in tt) g in
      record {
        low = min-keeps (λ (z : Float). T (le (w64 0) z)) y cap y-ge j.low;
        high = (min-le y cap (le-no-nan (w64 0) y y-ge).1 (finite-no-nan cap C)).1;
      }

-- 30 s, the third failure
third : hold_of (w64 30) 2 (w64 1000000) ≡ w64 120
unfolding min_f is_nan of_int mul lt
third = refl

third-capped : hold_of (w64 30) 2 (w64 100) ≡ w64 100
unfolding min_f is_nan of_int mul lt
third-capped = refl
