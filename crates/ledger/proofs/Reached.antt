-- The limits 16,256 bytes and 2,048 pieces are reached exactly.
-- Assumes nothing.
use Prim.Native.Nat.{ℕ, ◌≤◌}
use mathlib.Core.Path.{◌≡◌, refl}
use mathlib.Core.Logic.{◌⊎◌, inl, inr}
use mathlib.Core.Bool.{false}
use mathlib.Core.List.{List, [], ◌∷◌}
use native.Mathlib.Omega.{arith}
use lib.ListN.{length, replicate, length-replicate}
use Rattle.ledger.specs.Ledger.{Plan, requeue, size, data_burst, Sender}
use Rattle.ledger.specs.Queue.{no_queue, enqueue}
use Rattle.ledger.specs.Sound.{Fits}
use Rattle.ledger.proofs.Queue.{length-enqueue}
use Rattle.ledger.specs.Calls.{run, Along}
use Rattle.limits.specs.Limits.{min_payload, longest_payload, max_top, max_slots, max_waiting, max_flying, max_pieces, max_number}
use Rattle.ledger.specs.Sizes.{Sizes}
use Rattle.ledger.specs.CallsCode.{Move, queue_move, burst_move, step, Allowed, fresh_ledger_station}
use Rattle.ledger.specs.LedgerCode.{fresh_ledger}
use Rattle.ledger.specs.SizesCode.{SizeRange}

abbrev pub widest : Sizes
widest = record { short = min_payload; long = longest_payload; top = max_top }

abbrev pub plan_for : ℕ → ℕ → Plan
plan_for payload number =
    record { payload = payload; merging = false; parity = 0; room = max_slots; slot = 1; increment = λ h. 1; number = number }

-- the queue filled; a burst of long frames; a burst of short ones
unfoldable pub full : List Move
full = queue_move 3 0 (replicate max_waiting 0) ∷ burst_move (plan_for longest_payload 1) ∷ burst_move (plan_for min_payload 2) ∷ []

pub full-bytes : size (run (step widest) full fresh_ledger_station).sender.pieces ≡ max_flying
unfolding full data_burst requeue enqueue
full-bytes = refl

pub full-pieces : length (run (step widest) full fresh_ledger_station).sender.pieces ≡ max_pieces
unfolding full data_burst requeue enqueue
full-pieces = refl

-- by calls that are allowed
pub widest-range : SizeRange widest
widest-range = record { least = omega arith; order = omega arith; most = omega arith; bits = omega arith }

plan_for-fits : (payload number : ℕ) (s : Sender) → (payload ≡ min_payload) ⊎ (payload ≡ longest_payload) → number ≤ max_number → Fits widest s (plan_for payload number)
plan_for-fits payload number s p n =
    record {
      payload = p;
      parity = λ h. absurd (omega arith);
      room = omega arith;
      slot = (omega arith, omega arith);
      increment = λ h. (omega arith, omega arith);
      number = n;
    }

pub full-allowed : Along (step widest) (Allowed widest) full fresh_ledger_station
unfolding full
full-allowed =
    let l = length-replicate {A = ℕ} max_waiting 0 in
    let w = length-enqueue 3 0 no_queue (replicate max_waiting 0) in
    ((omega arith, omega arith), (plan_for-fits longest_payload 1 _ (inr refl) (omega arith), (plan_for-fits min_payload 2 _ (inl refl) (omega arith), tt)))
