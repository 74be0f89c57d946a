-- An increment is at least 1 bit and at most the code's. Assumes nothing.
use mathlib.Core.List.{List, [], ◌∷◌}
use Prim.Native.Nat.{ℕ, suc, ◌≤◌, ◌<◌, min}
use native.Mathlib.Omega.{arith}
use lib.ListN.{length, get_or, get_or-eq_default}
use lib.Dec.{ltb}
use borrow.Author.Tests.{ltb-true, ltb-false}
use Rattle.laws.proofs.Picks.{test}
use Rattle.harq.specs.Held.{above, smallest, up_to, increment_of}
use Rattle.harq.specs.declared.Harq.{Harq}
use Rattle.plan.specs.declared.Choice.{Choice}
use Rattle.limits.specs.Limits.{max_bits}
use Rattle.plan.specs.PlanningCode.{AirRange, CodesRange}

module _ (h slot : ℕ) where
  -- the smallest of ends above h is above h, and no more than the first
  smallest-above : (e : ℕ) (es : List ℕ) → h < e → (h < smallest e (above h es)) × (smallest e (above h es) ≤ e)
  unfolding smallest above
  smallest-above e [] k = (k, omega arith)
  smallest-above e (x ∷ es) k =
      test (ltb h x)
      (λ t. rw t (let i = smallest-above (min e x) es (omega (arith, ltb-true h x t)) in (i.0, omega arith)))
      (λ t. rw t (smallest-above e es k))

  up-to-range : (1 ≤ slot) × (slot ≤ max_bits) → (es : List ℕ) → ((k : ℕ) → get_or es k 0 ≤ max_bits) → (1 ≤ up_to (above h es) h slot) × (up_to (above h es) h slot ≤ max_bits)
  unfolding above up_to
  up-to-range s [] f = s
  up-to-range s (e ∷ es) f =
      test (ltb h e)
      (λ t. rw t (let i = smallest-above e es (ltb-true h e t) in (omega arith, omega (arith, f 0))))
      (λ t. rw t (up-to-range s es (λ k. f (suc k))))

module _ (q : Harq) (c : Choice) (r : CodesRange q c) where
  pub increment-range : (h : ℕ) → (1 ≤ increment_of q h c.slot) × (increment_of q h c.slot ≤ max_bits)
  unfolding increment_of
  increment-range h = up-to-range h c.slot r.slot q.ends r.ends

-- from the six ends of a profile
pub codes-range : (q : Harq) (c : Choice) → AirRange c → (1 ≤ c.slot) × (c.slot ≤ max_bits) → length q.ends ≤ 6 → ((i : ℕ) → i < 6 → get_or q.ends i 0 ≤ max_bits) → CodesRange q c
codes-range q c air s six e =
    record {
      air = air;
      slot = s;
      ends = λ k. test (ltb k 6) (λ t. e k (ltb-true k 6 t)) (λ t. omega (arith, get_or-eq_default q.ends 0 {n = k} (omega (arith, ltb-false k 6 t))));
    }
