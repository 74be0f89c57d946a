-- The calls, as far as the ledger goes, lists of them, and what the tally is fed: what follows the code or serves proofs; nothing here has to be believed.
use Rattle.std.specs.Prelude.{ℕ, ◌+◌, ◌≤◌, ◌≡◌, Bool, List, [], ◌∷◌, length}
use Rattle.ledger.specs.Reply.{Reply}
use Rattle.ledger.specs.Ledger.{Sender, Plan, size, new_pieces, data_burst, hear_ack, clear_burst, requeue}
use Rattle.ledger.specs.Queue.{Queue, no_queue, message_bytes, goes, enqueue, superseded, flies}
use Rattle.ledger.specs.Station.{Station}
use Rattle.ledger.specs.Tally.{Event, silent, took, reply, replies, turn, went}
use Rattle.ledger.specs.Sound.{Sound, Fits}
use Rattle.limits.specs.Limits.{max_waiting, max_taken}
use Rattle.ledger.specs.Sizes.{Sizes}
use Rattle.ledger.specs.LedgerCode.{frames, taken_of, fresh_ledger}

pub data Move : Type 0 where
  -- one that leaves the ledger as it is: refused, or a connect
  idle : Move
  -- bytes queued, with a class and a label
  queue_move : ℕ → ℕ → List ℕ → Move
  -- a short or long ack, and whether what it misses is held then
  ack_move : Reply → Bool → Move
  -- the acks of one reception, each so
  acks_move : List (Reply × Bool) → Move
  -- a turn
  turn_move : Move
  -- a burst, with the plan that the gear makes of it
  burst_move : Plan → Move

abbrev pub fresh_ledger_station : Station
fresh_ledger_station = record { sender = fresh_ledger; queue = no_queue; withdrawn = 0 }

-- acks one after the other
abbrev pub hear_all : ℕ → List (Reply × Bool) → Sender → Sender
hear_all top [] s = s
hear_all top (x ∷ xs) s = hear_all top xs (hear_ack top x.0 x.1 s)

abbrev pub replies_of : List (Reply × Bool) → List Reply
replies_of [] = []
replies_of (x ∷ xs) = x.0 ∷ replies_of xs

-- the messages that a call leaves
abbrev pub queue_after : Move → Station → Queue
queue_after idle s = s.queue
queue_after (queue_move c l bs) s = enqueue c l bs s.queue
queue_after (ack_move r keep) s = s.queue
queue_after (acks_move xs) s = s.queue
queue_after turn_move s = s.queue
queue_after (burst_move g) s = flies (size (new_pieces g s.sender)) s.queue

-- the bytes withdrawn after it
abbrev pub withdrawn_after : Move → Station → ℕ
withdrawn_after idle s = s.withdrawn
withdrawn_after (queue_move c l bs) s = s.withdrawn + length (message_bytes (superseded l bs s.queue))
withdrawn_after (ack_move r keep) s = s.withdrawn
withdrawn_after (acks_move xs) s = s.withdrawn
withdrawn_after turn_move s = s.withdrawn
withdrawn_after (burst_move g) s = s.withdrawn

-- the sender that it leaves, where q is what waits then
abbrev pub sender_after : Sizes → Move → Queue → Sender → Sender
sender_after z idle q s = s
sender_after z (queue_move c l bs) q s = requeue (goes q) s
sender_after z (ack_move r keep) q s = hear_ack z.top r keep s
sender_after z (acks_move xs) q s = hear_all z.top xs s
sender_after z turn_move q s = clear_burst s
sender_after z (burst_move g) q s = data_burst g s

abbrev pub step : Sizes → Move → Station → Station
step z c s = record { sender = sender_after z c (queue_after c s) s.sender; queue = queue_after c s; withdrawn = withdrawn_after c s }

-- what is told of a call: its arguments, and its answer, from the sender that it leaves
abbrev pub event : Move → Sender → Event
event idle s = silent
event (queue_move c l bs) s = took c l bs
event (ack_move r keep) s = reply r
event (acks_move xs) s = replies (replies_of xs)
event turn_move s = turn
event (burst_move g) s = went s.number (frames s.pieces s.sent)

-- an accepted call is within the limits: refusals 8, judged after the withdrawal, and 9, and a plan that fits
abbrev pub Allowed : Sizes → Move → Station → Type 0
Allowed z idle s = Unit {0}
Allowed z (queue_move c l bs) s =
    (length (goes (enqueue c l bs s.queue)) ≤ max_waiting) × (taken_of s.sender + s.withdrawn + length bs ≤ max_taken)
Allowed z (ack_move r keep) s = Unit {0}
Allowed z (acks_move xs) s = Unit {0}
Allowed z turn_move s = Unit {0}
Allowed z (burst_move g) s = Fits z s.sender g

abbrev pub move_told : Sizes → Move → Station → Event
move_told z c s = event c (step z c s).sender

-- a sound sender, the messages of its waiting bytes, and taken bytes within their limit, those withdrawn among them
pub record SoundStation (z : Sizes) (s : Station) : Type 0 where
  pub sound : Sound z s.sender
  pub shows : s.sender.waiting ≡ goes s.queue
  pub taken : taken_of s.sender + s.withdrawn ≤ max_taken
