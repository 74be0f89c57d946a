-- Document 01's reckoned examples of pieces, replies by their bits, a run of calls, and the limits, reached exactly; the order of messages,
-- and their withdrawal.
-- Assumes nothing.
use Prim.Native.Nat.{ℕ, zero, suc}
use mathlib.Core.Path.{◌≡◌, refl}
use mathlib.Core.Bool.{Bool, true, false}
use mathlib.Core.List.{List, [], ◌∷◌}
use lib.ListN.{length, replicate}
use Rattle.ledger.specs.Reply.{Reply, short_ack, long_ack}
use Rattle.ledger.specs.Ledger.{Piece, len, split, merge_inflight, requeue, data_burst, hear_ack, settle_burst, clear_burst, Held, Sent, Sender, sent_offs}
use Rattle.ledger.specs.Queue.{Queue, no_queue, message_bytes, goes, enqueue, superseded, flies, begins}
use Rattle.ledger.specs.Tally.{Tally, waits, in_flight, acknowledged, start, queued, sent_out, heard, none_outstanding}
use Rattle.ledger.specs.Plan.{parity, room}
use Rattle.ledger.specs.Calls.{run, tally}
use Rattle.ledger.specs.Sizes.{Sizes}
use Rattle.ledger.specs.CallsCode.{Move, burst_move, queue_move, ack_move, acks_move, turn_move, step, move_told, fresh_ledger_station}
use Rattle.ledger.specs.LedgerCode.{fresh_ledger}

-- offset and length of each piece
abbrev pub spans : List Piece → List ℕ
spans [] = []
spans (p ∷ ps) = p.off ∷ len p ∷ spans ps

abbrev pub piece : ℕ → ℕ → Piece
piece o n = record { off = o; bytes = replicate n 7 }

pub P7 : spans (split 22 (piece 100 50 ∷ [])) ≡ 100 ∷ 22 ∷ 122 ∷ 22 ∷ 144 ∷ 6 ∷ []
P7 = refl

pub P8 : spans (merge_inflight [] 100 (piece 0 40 ∷ piece 40 40 ∷ piece 80 40 ∷ [])) ≡ 0 ∷ 80 ∷ 80 ∷ 40 ∷ []
P8 = refl

pub P9 : spans (merge_inflight (40 ∷ []) 100 (piece 0 40 ∷ piece 40 40 ∷ piece 80 40 ∷ [])) ≡ 0 ∷ 40 ∷ 40 ∷ 40 ∷ 80 ∷ 40 ∷ []
P9 = refl

-- merging goes on from the piece that did not fit: it takes the next one
goes_on : spans (merge_inflight [] 100 (piece 0 80 ∷ piece 80 40 ∷ piece 120 40 ∷ [])) ≡ 0 ∷ 80 ∷ 80 ∷ 80 ∷ []
goes_on = refl

-- ---- replies: the bits of a burst of n frames

abbrev bits_from : (ℕ → Bool) → ℕ → ℕ → List Bool
bits_from b i zero = []
bits_from b i (suc n) = b i ∷ bits_from b (suc i) n

-- 63 with seven frames is all seven; with six it is six bits; 62 never means more than its five bits
all-seven : bits_from ((short_ack 1 63).bit 7) 0 7 ≡ replicate 7 true
all-seven = refl

six : bits_from ((short_ack 1 63).bit 6) 0 6 ≡ replicate 6 true
six = refl

five : bits_from ((short_ack 1 62).bit 7) 0 7 ≡ false ∷ true ∷ true ∷ true ∷ true ∷ true ∷ false ∷ []
five = refl

-- a long ack's 63 is six bits
long-six : bits_from ((long_ack 1 63).bit 7) 0 7 ≡ true ∷ true ∷ true ∷ true ∷ true ∷ true ∷ false ∷ []
long-six = refl

-- ---- a run

abbrev sizes : Sizes
sizes = record { short = 8; long = 30; top = 11520 }

abbrev plan : ℕ → ℕ → ℕ → ℕ → Move
plan payload parity room number =
    burst_move (record { payload = payload; merging = true; parity = parity; room = room; slot = 2880; increment = λ h. 1440; number = number })

-- 200 bytes; four frames of 30, of which the second and fourth arrive and the others are held; increments and two more; all but the last arrive; an ack
-- that is not awaited; a short level; a turn; an ack that is not awaited
calls : List Move
calls =
    queue_move 3 0 (replicate 200 5) ∷ plan 30 0 4 1 ∷ ack_move (short_ack 1 10) true ∷ plan 30 2 2 2 ∷ ack_move (short_ack 2 7) true ∷ ack_move (short_ack 2 63) false
    ∷ plan 8 0 3 3 ∷ turn_move ∷ ack_move (short_ack 3 7) false ∷ []

after-calls : spans (run (step sizes) calls fresh_ledger_station).sender.pieces ≡ 150 ∷ 8 ∷ 158 ∷ 8 ∷ 166 ∷ 8 ∷ 174 ∷ 6 ∷ []
unfolding calls data_burst hear_ack settle_burst clear_burst requeue enqueue flies
after-calls = refl

abbrev counts : Tally → List ℕ
counts t = t.taken ∷ length (waits t) ∷ in_flight t.flown ∷ acknowledged t.flown ∷ length (message_bytes t.withdrawn) ∷ []

after-tally : counts (tally (step sizes) (move_told sizes) calls fresh_ledger_station start) ≡ 200 ∷ 20 ∷ 30 ∷ 150 ∷ 0 ∷ []
unfolding calls data_burst hear_ack settle_burst clear_burst requeue enqueue superseded flies begins queued sent_out heard none_outstanding
after-tally = refl

-- ---- a reception: of its acks the first alone can settle, and another burst's number first settles nothing

abbrev reception_of : List (Reply × Bool) → List Move
reception_of xs = queue_move 3 0 (replicate 200 5) ∷ plan 30 0 4 1 ∷ acks_move xs ∷ []

abbrev after_reception : List (Reply × Bool) → List ℕ
after_reception xs = counts (tally (step sizes) (move_told sizes) (reception_of xs) fresh_ledger_station start)

first-settles : after_reception ((long_ack 1 10, true) ∷ (long_ack 1 15, true) ∷ []) ≡ 200 ∷ 80 ∷ 60 ∷ 60 ∷ 0 ∷ []
unfolding data_burst hear_ack settle_burst clear_burst requeue enqueue superseded flies begins queued sent_out heard
first-settles = refl

another-first : after_reception ((long_ack 2 15, true) ∷ (long_ack 1 15, true) ∷ []) ≡ 200 ∷ 80 ∷ 120 ∷ 0 ∷ 0 ∷ []
unfolding data_burst hear_ack settle_burst clear_burst requeue enqueue superseded flies begins queued sent_out heard
another-first = refl

no-ack : after_reception [] ≡ 200 ∷ 80 ∷ 120 ∷ 0 ∷ 0 ∷ []
unfolding data_burst hear_ack settle_burst clear_burst requeue enqueue superseded flies begins queued sent_out heard
no-ack = refl

-- ---- a burst's frames, and the held list

abbrev held_rows : List Held → List ℕ
held_rows [] = []
held_rows (h ∷ hs) = h.off ∷ h.bits ∷ held_rows hs

abbrev sent_rows : List Sent → List ℕ
sent_rows [] = []
sent_rows (f ∷ fs) = f.off ∷ f.bits ∷ f.held ∷ sent_rows fs

-- four frames of 30, of which the second and fourth arrive, the others held or not; then a burst
abbrev twice : Bool → Move → Sender
twice keep c = (run (step sizes) (queue_move 3 0 (replicate 200 5) ∷ plan 30 0 4 1 ∷ ack_move (short_ack 1 10) keep ∷ c ∷ []) fresh_ledger_station).sender

-- parity first, then new pieces; of two held one goes, and the other is the unsent rest
parity-first : sent_rows (twice true (plan 30 1 2 2)).sent ≡ 0 ∷ 1440 ∷ 4320 ∷ 120 ∷ 2880 ∷ 2880 ∷ 150 ∷ 2880 ∷ 2880 ∷ []
unfolding data_burst hear_ack settle_burst clear_burst requeue enqueue flies
parity-first = refl

rest-left : held_rows (twice true (plan 30 1 2 2)).rest ≡ 60 ∷ 2880 ∷ []
unfolding data_burst hear_ack settle_burst clear_burst requeue enqueue flies
rest-left = refl

-- the oldest pieces, then new ones
oldest-first : sent_offs (twice false (plan 30 0 3 2)).sent ≡ 0 ∷ 60 ∷ 120 ∷ []
unfolding data_burst hear_ack settle_burst clear_burst requeue enqueue flies
oldest-first = refl

-- after an ack that has the second frame alone, the peer holds the unsent rest, then what it missed
held_then : held_rows (hear_ack 11520 (short_ack 2 2) true (twice true (plan 30 1 2 2))).held ≡ 60 ∷ 2880 ∷ 0 ∷ 4320 ∷ 150 ∷ 2880 ∷ []
unfolding data_burst hear_ack settle_burst clear_burst requeue enqueue flies
held_then = refl

-- after an ack of another burst the held list and the unsent rest stay
unmatched : (held_rows (hear_ack 11520 (short_ack 1 2) true (twice true (plan 30 1 2 2))).held ≡ 0 ∷ 2880 ∷ 60 ∷ 2880 ∷ [])
    × (held_rows (hear_ack 11520 (short_ack 1 2) true (twice true (plan 30 1 2 2))).rest ≡ 60 ∷ 2880 ∷ [])
unfolding data_burst hear_ack settle_burst clear_burst requeue enqueue flies
unmatched = (refl, refl)

-- an ack of a burst with no frame keeps the held list, whatever it says
no-frame : (keep : Bool) → held_rows (hear_ack 11520 (short_ack 0 63) keep (record { waiting = []; next = 30; acked = 0; pieces = piece 0 30 ∷ []; held = record { off = 0; bits = 2880 } ∷ []; rest = []; sent = []; awaited = true; number = 0 })).held ≡ 0 ∷ 2880 ∷ []
unfolding hear_ack settle_burst clear_burst
no-frame keep = refl

-- ---- messages: "the lowest class waiting goes, the earliest of it first", "a message once begun is finished"

earliest-first : goes (enqueue 1 0 (7 ∷ []) (enqueue 2 0 (6 ∷ []) (enqueue 1 0 (5 ∷ []) no_queue))) ≡ 5 ∷ 7 ∷ 6 ∷ []
unfolding enqueue
earliest-first = refl

-- class 0 behind a begun message of class 2; and ahead of one of class 3, where a burst ends with a message
begun_first : goes (enqueue 0 0 (9 ∷ []) (flies 1 (enqueue 2 0 (5 ∷ 6 ∷ []) no_queue))) ≡ 6 ∷ 9 ∷ []
unfolding enqueue flies
begun_first = refl

exact-end : goes (enqueue 0 0 (9 ∷ []) (flies 2 (enqueue 3 0 (7 ∷ []) (enqueue 2 0 (5 ∷ 6 ∷ []) no_queue)))) ≡ 9 ∷ 7 ∷ []
unfolding enqueue flies
exact-end = refl

-- three bytes begin two messages
begun-whole : message_bytes (begins 3 (enqueue 3 0 (7 ∷ 8 ∷ []) (enqueue 2 0 (5 ∷ 6 ∷ []) no_queue))) ≡ 5 ∷ 6 ∷ 7 ∷ 8 ∷ []
unfolding enqueue begins
begun-whole = refl

-- ---- "Queuing a labelled message withdraws each waiting message with that label that hasn't begun"

-- the bytes that wait after a queuing, and those that it withdraws
abbrev leaves : ℕ → ℕ → List ℕ → Queue → List (List ℕ)
leaves c l bs q = goes (enqueue c l bs q) ∷ message_bytes (superseded l bs q) ∷ []

-- labels 0, 0, 7 and 8, one byte each
abbrev four : Queue
four = enqueue 3 8 (4 ∷ []) (enqueue 2 7 (3 ∷ []) (enqueue 1 0 (2 ∷ []) (enqueue 0 0 (1 ∷ []) no_queue)))

-- one between others, of another class: the new one goes last of its own class
superseded-between : leaves 0 7 (9 ∷ []) four ≡ (1 ∷ 9 ∷ 2 ∷ 4 ∷ []) ∷ (3 ∷ []) ∷ []
unfolding enqueue superseded
superseded-between = refl

-- "0 is no label", and "A queuing of no bytes withdraws nothing"
superseded-none : (leaves 0 0 (9 ∷ []) four ≡ (1 ∷ 9 ∷ 2 ∷ 3 ∷ 4 ∷ []) ∷ [] ∷ []) × (leaves 0 7 [] four ≡ (1 ∷ 2 ∷ 3 ∷ 4 ∷ []) ∷ [] ∷ [])
unfolding enqueue superseded
superseded-none = (refl, refl)

-- "A begun one goes on", and the one behind it is withdrawn
abbrev begun_one : Queue
begun_one = enqueue 2 7 (8 ∷ []) (flies 1 (enqueue 3 7 (5 ∷ 6 ∷ []) no_queue))

begun-goes-on : leaves 1 7 (9 ∷ []) begun_one ≡ (6 ∷ 9 ∷ []) ∷ (8 ∷ []) ∷ []
unfolding enqueue superseded flies
begun-goes-on = refl

-- the same in a run: a bulletin of 100 bytes, of which 60 fly; a second, which waits behind it; and a third, which withdraws the second
bulletins : List Move
bulletins = queue_move 3 7 (replicate 100 5) ∷ plan 30 0 2 1 ∷ queue_move 2 7 (replicate 50 6) ∷ queue_move 1 7 (replicate 20 8) ∷ []

after-bulletins : counts (tally (step sizes) (move_told sizes) bulletins fresh_ledger_station start) ≡ 170 ∷ 60 ∷ 60 ∷ 0 ∷ 50 ∷ []
unfolding bulletins data_burst requeue enqueue superseded flies begins queued sent_out
after-bulletins = refl

withdrawn-counted : (run (step sizes) bulletins fresh_ledger_station).withdrawn ≡ 50
unfolding bulletins data_burst requeue enqueue superseded flies
withdrawn-counted = refl
