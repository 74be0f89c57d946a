-- A queuing that is not refused is one that the ledger allows, and its bytes fit the stream.
-- Assumes nothing.
use mathlib.Core.Path.{◌≡◌, sym, ap, ◌∙◌}
use mathlib.Core.List.{List}
use Prim.Native.Nat.{ℕ, ◌+◌, ◌-◌, ◌≤◌, ◌<◌}
use native.Mathlib.Omega.{arith}
use lib.ListN.{length}
use lib.Dec.{ltb}
use borrow.Author.Tests.{ltb-true, ltb-false, lt-ltb, le-ltb}
use Rattle.laws.proofs.Picks.{test}
use Rattle.ledger.specs.Queue.{message_bytes, goes, superseded}
use Rattle.ledger.specs.Station.{Station}
use Rattle.ledger.proofs.Queue.{length-enqueue}
use Rattle.area.specs.Layout.{stream_bytes}
use Rattle.area.specs.Room.{queue_refusal}
use Rattle.limits.specs.Limits.{max_flying, max_waiting, max_taken}
use Rattle.ledger.specs.Sizes.{Sizes}
use Rattle.ledger.specs.CallsCode.{Allowed, queue_move}
use Rattle.ledger.specs.LedgerCode.{taken_of}

-- what flies and what waits fit the stream together
pub stream-holds : max_flying + max_waiting ≤ stream_bytes
stream-holds = omega arith

module _ (w t n : ℕ) where
  pub full : max_waiting < w + n → queue_refusal w t n ≡ 8
  unfolding queue_refusal
  full h = simp (lt-ltb _ _ h)

  pub over : w + n ≤ max_waiting → max_taken < t + n → queue_refusal w t n ≡ 9
  unfolding queue_refusal
  over h k = simp (le-ltb _ _ h, lt-ltb _ _ k)

  pub room-enough : w + n ≤ max_waiting → t + n ≤ max_taken → queue_refusal w t n ≡ 0
  unfolding queue_refusal
  room-enough h k = simp (le-ltb _ _ h, le-ltb _ _ k)

  pub not-refused : queue_refusal w t n ≡ 0 → (w + n ≤ max_waiting) × (t + n ≤ max_taken)
  not-refused e =
      test (ltb max_waiting (w + n))
      (λ a. let q : ◌≡◌ {A = ℕ} 8 0 = sym (full (ltb-true _ _ a)) ∙ e in omega arith)
      (λ a. test (ltb max_taken (t + n)) (λ b. let q : ◌≡◌ {A = ℕ} 9 0 = sym (over (ltb-false _ _ a) (ltb-true _ _ b)) ∙ e in omega arith) (λ b. (ltb-false _ _ a, ltb-false _ _ b)))

  -- behind the flying and the waiting bytes there is place for n more
  pub queue-fits : (f : ℕ) → f ≤ max_flying → queue_refusal w t n ≡ 0 → f + w + n ≤ stream_bytes
  queue-fits f h e = omega (arith, not-refused e)

-- 8 judged after the withdrawal, 9 with the bytes withdrawn
pub queue-allowed : (z : Sizes) (st : Station) (c l : ℕ) (bs : List ℕ) → st.sender.waiting ≡ goes st.queue
    → let left = length st.sender.waiting - length (message_bytes (superseded l bs st.queue)) in
    queue_refusal left (taken_of st.sender + st.withdrawn) (length bs) ≡ 0
    → Allowed z (queue_move c l bs) st
queue-allowed z st c l bs sh e =
    let r = not-refused _ _ _ e in
    (omega (arith, r.0, length-enqueue c l st.queue bs, ap length sh), omega (arith, r.1))
