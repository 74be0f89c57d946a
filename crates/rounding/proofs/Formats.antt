-- The kit's formats hold exactly the standard's numbers: each finite value that `fits` admits is one of `FormatNumber`, and each `FormatNumber` is
-- the size of such a value of either sign. Assumes nothing.
use mathlib.Core.Path.{◌≡◌, ap, subst}
use Prim.Native.Nat.{ℕ, suc, ◌+◌, ◌-◌, ◌*◌, ◌^◌, ◌≤◌, ◌<◌}
use native.Mathlib.Nat.{lt_of_lt_of_le}
use native.Mathlib.Omega.{arith}
use mathlib.Core.Bool.{Bool}
use lib.Dec.{T}
use lib.IntN.{ℤ}
use lib.Pow.{pow_pos, pow_mono, shl_lt}
use lib.Ieee.{Float, inf, fin, Format, prec, emax, low, up, down, round, fits}
use lib.Ieee.Fits.{down_pos, round-fits, two}
use lib.Ieee.Exact.{round_exact}
use Rattle.ieee.proofs.Representable.{round-own}
use Rattle.rounding.specs.Rounding.{FormatNumber, Datum, Rounded, finite, infinite}
use Rattle.rounding.proofs.Rule.{rounded, datum, top'}

pub held : (f : Format) (s : Bool) (m : ℕ) (e : ℤ) → T (fits f (fin s m e))
    → (v : ℕ) × FormatNumber (prec f) (emax f) v × Datum (prec f) (emax f) (fin s m e) s v
held f s m e h = go (subst (λ (x : Float). Rounded (prec f) (emax f) s (m * up e) (down e) x) (round-own f s m e h)
    (rounded f s (m * up e) (down e) (down_pos e)))
  where
    no-inf : fin s m e ≡ inf s → ⊥
    no-inf g = let z : ◌≡◌ {A = ℕ} 0 1 = cc in omega arith

    go : Rounded (prec f) (emax f) s (m * up e) (down e) (fin s m e)
        → (v : ℕ) × FormatNumber (prec f) (emax f) v × Datum (prec f) (emax f) (fin s m e) s v
    go (infinite o g) = absurd (no-inf g)
    go (finite o v n d) = (v, n.number, d)

pub holds : (f : Format) (s : Bool) (v : ℕ) → FormatNumber (prec f) (emax f) v → (x : Float) × T (fits f x) × Datum (prec f) (emax f) x s v
holds f s v (c, j, w) =
    let l = 2 ^ low f in (
      round f s v l,
      round-fits f s v l,
      datum f (round f s v l) s v
          (round_exact f s v l c j (pow_pos (low f)) w.digits
          (lt_of_lt_of_le (shl_lt (prec f) j w.digits)
          (pow_mono (room (prec f) j (emax f) (low f + suc (emax f)) (two f) w.exponent (top' f))))
          (ap (λ (x : ℕ). x * l) w.magnitude)),
    )
  where
    room : (p j e t : ℕ) → 2 ≤ p → j < 2 * e → t ≡ p - 1 + 2 * e → p + j ≤ t
    room p j e t P h g = omega arith
