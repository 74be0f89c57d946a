-- What demand 3 rules out (document 01, "How strictly", point 3): what the page says after a list of calls (`Accounts`) is false of these stations, for a list of two or three calls.
-- Assumes nothing.
use Prim.Native.Nat.{ℕ, ◌+◌}
use mathlib.Core.Path.{◌≡◌, refl, ap}
use lib.ListN.{length, drop, get_or}
use mathlib.Core.Bool.{true, false}
use mathlib.Core.List.{List, [], ◌∷◌, ◌++◌}
use native.Mathlib.Omega.{arith}
use Rattle.ledger.specs.Sizes.{Sizes}
use Rattle.ledger.specs.Reply.{Reply, short_ack}
use Rattle.ledger.specs.Ledger.{Piece, Sender, Plan, requeue, data_burst, hear_ack, settle_burst, clear_burst}
use Rattle.ledger.specs.Queue.{enqueue, superseded, flies, begins, message}
use Rattle.ledger.specs.Station.{Station}
use Rattle.ledger.specs.Tally.{Event, start, queued, sent_out, heard}
use Rattle.ledger.specs.Calls.{run, history, tally}
use Rattle.ledger.specs.CallsCode.{Move, idle, queue_move, ack_move, acks_move, turn_move, burst_move, fresh_ledger_station, step, event}
use Rattle.demand.specs.Page.{Accounts}

abbrev sizes : Sizes
sizes = record { short = 8; long = 8; top = 2 }

abbrev all : ℕ → Reply
all n = record { number = n; bit = λ frames i. true }

-- the ledger's station after a call, its sender changed
abbrev with : (Sender → Sender) → Station → Station
with f s = record { sender = f s.sender; queue = s.queue; withdrawn = s.withdrawn }

-- bytes of no piece fly, and so many more are said to be acknowledged
abbrev invented : Sender → Sender
invented s = record { waiting = s.waiting; next = s.next; acked = s.acked + 1; pieces = s.pieces; held = s.held; rest = s.rest; sent = s.sent; awaited = s.awaited; number = s.number }

-- a byte of a flying piece is another
abbrev altered : List Piece → List Piece
altered [] = []
altered (q ∷ qs) = record { off = q.off; bytes = 0 ∷ drop 1 q.bytes } ∷ qs

abbrev other_byte : Sender → Sender
other_byte x = record { waiting = x.waiting; next = x.next; acked = x.acked; pieces = altered x.pieces; held = x.held; rest = x.rest; sent = x.sent; awaited = x.awaited; number = x.number }

-- acks settle nothing
abbrev nothing-settled : Move → Station → Station
nothing-settled (ack_move r keep) s = with clear_burst s
nothing-settled idle s = s
nothing-settled (queue_move c l bs) s = step sizes (queue_move c l bs) s
nothing-settled (acks_move xs) s = step sizes (acks_move xs) s
nothing-settled turn_move s = step sizes turn_move s
nothing-settled (burst_move g) s = step sizes (burst_move g) s

-- a first ack settles all
abbrev all_settled : Move → Station → Station
all_settled (ack_move r keep) s = with (hear_ack 2 (all r.number) keep) s
all_settled idle s = s
all_settled (queue_move c l bs) s = step sizes (queue_move c l bs) s
all_settled (acks_move xs) s = step sizes (acks_move xs) s
all_settled turn_move s = step sizes turn_move s
all_settled (burst_move g) s = step sizes (burst_move g) s

-- an invented count
abbrev count-invented : Move → Station → Station
count-invented (ack_move r keep) s = with invented (step sizes (ack_move r keep) s)
count-invented idle s = s
count-invented (queue_move c l bs) s = step sizes (queue_move c l bs) s
count-invented (acks_move xs) s = step sizes (acks_move xs) s
count-invented turn_move s = step sizes turn_move s
count-invented (burst_move g) s = step sizes (burst_move g) s

abbrev byte-altered : Move → Station → Station
byte-altered (burst_move g) s = with other_byte (step sizes (burst_move g) s)
byte-altered idle s = s
byte-altered (queue_move c l bs) s = step sizes (queue_move c l bs) s
byte-altered (ack_move r keep) s = step sizes (ack_move r keep) s
byte-altered (acks_move xs) s = step sizes (acks_move xs) s
byte-altered turn_move s = step sizes turn_move s

-- a new message goes last, whatever its class
abbrev in-order-of-arrival : Move → Station → Station
in-order-of-arrival (queue_move c l bs) s =
    record {
      sender = requeue (s.sender.waiting ++ bs) s.sender;
      queue = record { begun = s.queue.begun; messages = s.queue.messages ++ message c l bs };
      withdrawn = s.withdrawn;
    }
in-order-of-arrival idle s = s
in-order-of-arrival (ack_move r keep) s = step sizes (ack_move r keep) s
in-order-of-arrival (acks_move xs) s = step sizes (acks_move xs) s
in-order-of-arrival turn_move s = step sizes turn_move s
in-order-of-arrival (burst_move g) s = step sizes (burst_move g) s

-- the older bulletin is not withdrawn
abbrev older-stays : Move → Station → Station
older-stays (queue_move c l bs) s = step sizes (queue_move c 0 bs) s
older-stays idle s = s
older-stays (ack_move r keep) s = step sizes (ack_move r keep) s
older-stays (acks_move xs) s = step sizes (acks_move xs) s
older-stays turn_move s = step sizes turn_move s
older-stays (burst_move g) s = step sizes (burst_move g) s

-- a queuing withdraws the begun message too
abbrev begun-withdrawn : Move → Station → Station
begun-withdrawn (queue_move c l bs) s =
    step sizes (queue_move c l bs)
    (record { sender = s.sender; queue = record { begun = false; messages = s.queue.messages }; withdrawn = s.withdrawn })
begun-withdrawn idle s = s
begun-withdrawn (ack_move r keep) s = step sizes (ack_move r keep) s
begun-withdrawn (acks_move xs) s = step sizes (acks_move xs) s
begun-withdrawn turn_move s = step sizes turn_move s
begun-withdrawn (burst_move g) s = step sizes (burst_move g) s

-- the bytes withdrawn are not counted
abbrev uncounted : Move → Station → Station
uncounted (queue_move c l bs) s =
    let x = step sizes (queue_move c l bs) s in
    record { sender = x.sender; queue = x.queue; withdrawn = s.withdrawn }
uncounted idle s = s
uncounted (ack_move r keep) s = step sizes (ack_move r keep) s
uncounted (acks_move xs) s = step sizes (acks_move xs) s
uncounted turn_move s = step sizes turn_move s
uncounted (burst_move g) s = step sizes (burst_move g) s

module _ (wrong : Move → Station → Station) where
  abbrev says : Move → Station → Event
  says c s = event c (wrong c s).sender

  abbrev Holds : List Move → Type 0
  Holds cs = Accounts (history wrong says cs fresh_ledger_station) (tally wrong says cs fresh_ledger_station start) (run wrong cs fresh_ledger_station)

-- bursts of one frame and of two
abbrev frames : ℕ → Plan
frames n = record { payload = 8; merging = false; parity = 0; room = n; slot = 1; increment = λ h. 1; number = 1 }

abbrev nine : List ℕ
nine = 1 ∷ 2 ∷ 3 ∷ 4 ∷ 5 ∷ 6 ∷ 7 ∷ 8 ∷ 9 ∷ []

-- nine bytes in two frames, and an ack with this bitmap
abbrev calls : ℕ → List Move
calls bitmap = queue_move 3 0 nine ∷ burst_move (frames 2) ∷ ack_move (short_ack 1 bitmap) false ∷ []

pub right-first : (run (step sizes) (calls 1) fresh_ledger_station).sender.acked ≡ 8
unfolding requeue enqueue flies begins data_burst hear_ack settle_burst clear_burst
right-first = refl

pub no-settling : Holds nothing-settled (calls 1) → ⊥
unfolding requeue enqueue superseded flies begins data_burst hear_ack settle_burst clear_burst queued sent_out heard
no-settling d = omega (arith, d.covers 0)

pub no-settling-all : Holds all_settled (calls 1) → ⊥
unfolding requeue enqueue superseded flies begins data_burst hear_ack settle_burst clear_burst queued sent_out heard
no-settling-all d = omega (arith, d.covers 8)

pub no-inventing : Holds count-invented (calls 0) → ⊥
unfolding requeue enqueue superseded flies begins data_burst hear_ack settle_burst clear_burst queued sent_out heard
no-inventing d = omega (arith, d.acked)

-- the first byte is 1
pub no-altering : Holds byte-altered (queue_move 3 0 (1 ∷ 2 ∷ 3 ∷ []) ∷ burst_move (frames 2) ∷ []) → ⊥
unfolding requeue enqueue superseded flies begins data_burst hear_ack settle_burst clear_burst queued sent_out heard
no-altering d = omega (arith, ap (λ (l : List ℕ). get_or l 0 0) d.holds.1)

-- routine and then flash: the flash message waits first
pub no-arrival-order : Holds in-order-of-arrival (queue_move 3 0 (1 ∷ []) ∷ queue_move 0 0 (2 ∷ []) ∷ []) → ⊥
unfolding requeue enqueue queued
no-arrival-order d = omega (arith, ap (λ (l : List ℕ). get_or l 0 0) d.waiting)

-- two bulletins with the label 7
abbrev bulletins : List Move
bulletins = queue_move 3 7 (1 ∷ []) ∷ queue_move 3 7 (2 ∷ []) ∷ []

pub right-withdrawn : (run (step sizes) bulletins fresh_ledger_station).withdrawn ≡ 1
unfolding requeue enqueue superseded
right-withdrawn = refl

-- a message withdrawn never flies
pub no-withdrawn-flying : Holds older-stays (queue_move 3 7 (1 ∷ []) ∷ queue_move 3 7 (2 ∷ []) ∷ burst_move (frames 2) ∷ []) → ⊥
unfolding requeue enqueue superseded flies begins data_burst queued sent_out
no-withdrawn-flying d = omega (arith, ap length d.holds.1)

-- nor is it said to wait
pub no-older : Holds older-stays bulletins → ⊥
unfolding requeue enqueue superseded queued
no-older d = omega (arith, ap length d.waiting)

pub no-uncounted : Holds uncounted bulletins → ⊥
unfolding requeue enqueue superseded queued
no-uncounted d = omega (arith, d.withdrawn)

-- eight of nine bytes fly, and the ninth still waits when a newer bulletin comes
pub no-begun-withdrawn : Holds begun-withdrawn (queue_move 3 7 nine ∷ burst_move (frames 1) ∷ queue_move 3 7 (10 ∷ []) ∷ []) → ⊥
unfolding requeue enqueue superseded flies begins data_burst queued sent_out
no-begun-withdrawn d = omega (arith, ap length d.waiting)
