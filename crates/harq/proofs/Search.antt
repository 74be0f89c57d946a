-- The search for the smallest end above h: what is left to find, a turn of it, and its end. Assumes nothing.
use mathlib.Core.Path.{◌≡◌, refl, ap}
use mathlib.Core.Bool.{false, cond, ◌&&◌, ◌||◌}
use mathlib.Core.List.{List, [], ◌∷◌}
use Prim.Native.Nat.{ℕ, suc, ◌+◌, ◌-◌, ◌<◌, min}
use native.Mathlib.Omega.{arith}
use native.Mathlib.Numerals.{add-one}
use borrow.Author.Tests.{ltb-true, ltb-false, ne_eqb}
use lib.Dec.{ltb, eqb}
use lib.ListN.{length, get_or, drop}
use lib.Seq.{drop-cons}
use Rattle.laws.proofs.Picks.{test, and_first}
use Rattle.harq.specs.Held.{above, smallest, up_to}
use Rattle.harq.specs.HeldCode.{nearer}

-- the increment where `best` was found so far, 0 for none, and `es` are left to look at
unfoldable pub ahead : ℕ → ℕ → ℕ → List ℕ → ℕ
ahead best h slot es = cond (eqb best 0) (up_to (above h es) h slot) (smallest best (above h es) - h)

pub ahead-start : (h slot : ℕ) (es : List ℕ) → up_to (above h es) h slot ≡ ahead 0 h slot es
unfolding ahead
ahead-start h slot es = refl

pub ahead-end : (best h slot : ℕ) → ahead best h slot [] ≡ cond (eqb best 0) slot (best - h)
unfolding ahead above smallest up_to
ahead-end best h slot = refl

-- the nearer one is above h, if there is one
pub nearer-above : (best h e : ℕ) → (0 < best → h < best) → 0 < nearer best h e → h < nearer best h e
unfolding nearer
nearer-above best h e p q =
    test (ltb h e && (eqb best 0 || ltb e best))
    (λ a. rw a (omega (arith, ltb-true h e (and_first (ltb h e) _ a))))
    (λ a. rw a (p (rw a at q)))

step : (best h slot e : ℕ) (es : List ℕ) → ahead best h slot (e ∷ es) ≡ ahead (nearer best h e) h slot es
unfolding ahead above smallest up_to nearer
step best h slot e es =
    test (ltb h e)
    (λ a. test (eqb best 0)
    (λ z. let n : eqb e 0 ≡ false = ne_eqb e 0 (λ k. omega (arith, ltb-true h e a)) in rw (a, z, n) refl)
    (λ z. test (ltb e best)
    (λ b. let n : eqb e 0 ≡ false = ne_eqb e 0 (λ k. omega (arith, ltb-true h e a)) in
    let m : min best e ≡ e = omega (arith, ltb-true e best b) in rw (a, z, b, n) (ap (λ (k : ℕ). smallest k (above h es) - h) m))
    (λ b. let m : min best e ≡ best = omega (arith, ltb-false e best b) in rw (a, z, b, z) (ap (λ (k : ℕ). smallest k (above h es) - h) m))))
    (λ a. rw a refl)

pub ahead-turn : (best h slot : ℕ) (es : List ℕ) (i : ℕ) → i < length es → ahead best h slot (drop i es) ≡ ahead (nearer best h (get_or es i 0)) h slot (drop (i + 1) es)
ahead-turn best h slot es i k = rw (drop-cons es i 0 k, add-one) (step best h slot (get_or es i 0) (drop (suc i) es))
