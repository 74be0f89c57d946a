-- What a reply says of a burst's frames is in range. Assumes nothing.
use mathlib.Core.List.{List, [], ◌∷◌}
use mathlib.Core.Bool.{Bool, true, false, ◌&&◌}
use Prim.Native.Nat.{ℕ, suc, ◌≤◌, ◌<◌}
use native.Mathlib.Omega.{arith}
use lib.Dec.{ltb}
use lib.ListN.{length}
use borrow.Author.Tests.{eqb-false, ltb-true}
use Rattle.laws.specs.Lists.{one}
use Rattle.laws.proofs.Picks.{by, test}
use Rattle.ledger.specs.Reply.{Reply}
use Rattle.ledger.specs.Ledger as L
use Rattle.ledger.specs.Ledger.{Sent}
use Rattle.gear_laws.specs.Sound.{OutcomeInRange}
use Rattle.settle.specs.Outcomes.{is_fresh, fresh_sent, fresh_came, all_got, outcome_of}
use Rattle.settle.proofs.outcome.Counts.{one-few}
use Rattle.limits.specs.Limits.{max_slots}

one-both : (a b : Bool) → one (a && b) ≤ one a
one-both true b = one-few b
one-both false b = omega arith

-- of the frames so many are fresh, and so many came through
counts-few : (b : ℕ → Bool) (i : ℕ) (fs : List Sent) → (fresh_came b i fs ≤ fresh_sent fs) × (fresh_sent fs ≤ length fs) × (all_got b i fs ≤ length fs)
counts-few b i [] = (omega arith, omega arith, omega arith)
counts-few b i (f ∷ fs) =
    let c = counts-few b (suc i) fs in
    (omega (arith, one-both (is_fresh f) (b i), c.0), omega (arith, one-few (is_fresh f), c.1), omega (arith, one-few (b i), c.2))

pub outcome-counts : (r : Reply) (l : L.Sender) → length l.sent ≤ max_slots → OutcomeInRange (outcome_of r l)
unfolding outcome_of
outcome-counts r l h =
    let b = r.bit (length l.sent) in
    let c = counts-few b 0 l.sent in
    record {
      some = λ e. by (λ (n : ℕ). 0 < n) (ltb 0 (fresh_sent l.sent)) (λ t. ltb-true 0 (fresh_sent l.sent) t) (λ t. let z = eqb-false (length l.sent) 0 e in omega (arith, z));
      got =
          test (ltb 0 (fresh_sent l.sent))
          (λ t. rw t c.0)
          (λ t. rw t c.2);
      sent = by (λ (n : ℕ). n ≤ max_slots) (ltb 0 (fresh_sent l.sent)) (λ t. omega (arith, c.1)) (λ t. h);
    }
