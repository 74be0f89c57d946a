-- The burst seconds that stand in a record, and what they are read as. Assumes nothing.
use Rattle.std.proofs.Common.{◌≡◌, Bool, true, false, ◌||◌, T, sym, refl}
use mathlib.Core.Bool.{false≢true}
use denote.Floats.{passes, is_true}
use lib.Ieee.{Float, le, eq, of_int}
use Rattle.ieee.specs.Range.{In, w64}
use Rattle.ieee.proofs.Value.{le_trans, eq→le}
use Rattle.ieee.proofs.Range.{from-inside, to_inside}
use Rattle.laws.proofs.Picks.{test, by, or_right}
use Rattle.gear.specs.BurstLength.{burst_ok, burst_seconds}

-- what is 1 or more is not 0
not-zero : (x : Float) → T (le (w64 1) x) → eq x (w64 0) ≡ false
unfolding le of_int
not-zero x h = test (eq x (w64 0)) (λ t. absurd (le_trans (w64 1) x (w64 0) h (eq→le x (w64 0) (passes _ t)))) (λ t. t)

pub in-burst : (x : Float) → In (w64 1) (w64 1000) x → T (burst_ok x)
in-burst x i = passes _ (or_right (eq x (w64 0)) _ (to_inside _ _ x i))

-- what is 1 or more is read as it is
pub seconds-kept : (usual x : Float) → T (le (w64 1) x) → burst_seconds usual x ≡ x
unfolding burst_seconds
seconds-kept usual x h = rw (not-zero x h) refl

-- a sound record's are read as 1 to 1,000
pub seconds-in : (usual x : Float) → In (w64 1) (w64 1000) usual → T (burst_ok x) → In (w64 1) (w64 1000) (burst_seconds usual x)
unfolding burst_seconds
seconds-in usual x k h = by (In (w64 1) (w64 1000)) (eq x (w64 0)) (λ e. k) (λ e. from-inside _ _ _ (go _ _ e (is_true _ h)))
  where
    go : (a b : Bool) → a ≡ false → (a || b) ≡ true → b ≡ true
    go true b e f = absurd (false≢true (sym e))
    go false b e f = f
