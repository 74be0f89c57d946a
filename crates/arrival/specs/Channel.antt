-- A sender, a listening box and the channel between them, which loses any frames, bursts or replies (document 02, Change 10). Definitions only.
use Rattle.std.specs.Prelude.{ℕ, zero, suc, ◌≡◌, ◌⊎◌, Bool, true, cond, ◌&&◌, List, [], ◌∷◌, ◌++◌, map, eqb, length, take, drop, get_or, replicate}
use Rattle.config.specs.Durations.{frame_bytes}
use Rattle.config.specs.declared.Profile.{Profile}
use Rattle.ledger.specs.Calls.{run}
use Rattle.ledger.specs.Tally.{Event, silent, took, reply, replies, turn, went}
use Rattle.refusals.specs.declared.Reply.TheVariants.{ConnAck, Ack, LongAck, Turn}
use Rattle.sender.specs.Calls.{burst_call}
use Rattle.demand.specs.Lists.{Call, queues, hears, receives, bursts, State, fresh_start, next, call_told}
use Rattle.reception.specs.Reception.{Decoded, decoded_in, is_ack_read}
use Rattle.receiver.specs.Receiving.{reception_of, fresh_receiver}
use Rattle.receiver.specs.declared.Receiver.{Receiver}

-- a burst on the air: its number, and its frames by their place in it
pub record SentBurst : Type 0 where
  pub number : ℕ
  pub frames : List (List ℕ)

abbrev pub silence : SentBurst
silence = record { number = 0; frames = [] }

-- n frames of `size` bytes each, out of an output that has them back to back
abbrev pub cut_into : ℕ → ℕ → List ℕ → List (List ℕ)
cut_into size zero bs = []
cut_into size (suc n) bs = take size bs ∷ cut_into size n (drop size bs)

-- frames as the box's call takes them, back to back
abbrev pub back_to_back : List (List ℕ) → List ℕ
back_to_back [] = []
back_to_back (f ∷ fs) = f ++ back_to_back fs

-- the bursts sent, the latest first, after a call that is told as e and leaves the output `out`
abbrev pub bursts_after : ℕ → List ℕ → Event → List SentBurst → List SentBurst
bursts_after size out silent bs = bs
bursts_after size out (took c l xs) bs = bs
bursts_after size out (reply r) bs = bs
bursts_after size out (replies rs) bs = bs
bursts_after size out turn bs = bs
bursts_after size out (went k fs) bs = record { number = k; frames = cut_into size (length fs) out } ∷ bs

-- the box's answers to frames of the latest burst: a new burst has none yet
abbrev pub answers_after : Event → List (List ℕ) → List (List ℕ)
answers_after silent ys = ys
answers_after (took c l xs) ys = ys
answers_after (reply r) ys = ys
answers_after (replies rs) ys = ys
answers_after turn ys = ys
answers_after (went k fs) ys = []

pub data Happening : Type 0 where
  -- a call of the sender
  calls : Call → Happening
  -- of the burst before the last k the frames at these places reach the box, each with "its place in its burst as slot number", in any order
  -- and any number of times; the others are lost. The box is given a dB byte and an output
  arrives : ℕ → List ℕ → ℕ → List ℕ → Happening

pub record World : Type 0 where
  -- the sender's calls so far, and its bursts, the latest first
  pub made : List Call
  pub bursts_sent : List SentBurst
  -- the box's record and window, and all that it has handed on
  pub receiver : Receiver
  pub window : List ℕ
  pub handed : List ℕ
  -- its answers to frames of the latest burst, the last one first
  pub answers : List (List ℕ)

-- nothing has happened; m places are lent to a fresh box
abbrev pub quiet : ℕ → World
quiet m = record { made = []; bursts_sent = []; receiver = fresh_receiver; window = replicate m 0; handed = []; answers = [] }

-- whether the burst before the last k is the latest
abbrev pub is_latest : ℕ → Bool
is_latest k = eqb k 0

-- n zeros are lent to a fresh sender
module _ (p : Profile) (n : ℕ) where
  -- its record and work area
  abbrev pub sender_state : World → State
  sender_state w = run (next p) w.made (fresh_start n)

  -- the output that a call leaves
  abbrev pub output_of : Call → State → List ℕ
  output_of (queues k l bs) c = []
  output_of (hears h r b) c = []
  output_of (receives h r bs) c = []
  output_of (bursts out) c = (burst_call p c.0 c.1 out).1.1

  abbrev pub calling : Call → World → World
  calling i w =
      let c = sender_state w in
      record {
        made = w.made ++ (i ∷ []);
        bursts_sent = bursts_after (frame_bytes p c.0.sender.gear.level) (output_of i c) (call_told p i c) w.bursts_sent;
        receiver = w.receiver;
        window = w.window;
        handed = w.handed;
        answers = answers_after (call_told p i c) w.answers;
      }

  abbrev pub arriving : ℕ → List ℕ → ℕ → List ℕ → World → World
  arriving k places db out w =
      let b = get_or w.bursts_sent k silence in
      let fs = map (λ (i : ℕ). get_or b.frames i []) places in
      let x = reception_of w.receiver w.window b.number (back_to_back fs) (map length fs) places db out in
      record {
        made = w.made;
        bursts_sent = w.bursts_sent;
        receiver = x.0.next;
        window = x.1.0;
        handed = w.handed ++ take x.0.answer.handed x.1.1;
        answers = cond (eqb x.0.answer.refusal 0 && is_latest k) (x.0.answer.payload ∷ w.answers) w.answers;
      }

  abbrev pub happens : Happening → World → World
  happens (calls i) w = calling i w
  happens (arrives k places db out) w = arriving k places db out w

-- b is one of these
abbrev pub OneOf : List ℕ → List (List ℕ) → Type 0
OneOf b [] = ⊥
OneOf b (y ∷ ys) = (b ≡ y) ⊎ OneOf b ys

-- of a reception's frames each that is read as an ack
abbrev pub EachOneOf : List Decoded → List (List ℕ) → Type 0
EachOneOf [] ys = Unit {0}
EachOneOf (f ∷ fs) ys = (is_ack_read f ≡ true → OneOf f.payload ys) × EachOneOf fs ys

-- "a reply that arrives, the connect answer aside, is the box's answer to frames of the sender's latest burst": of the acks, long ones with such
-- an answer, one by one or in one reception, as often as you like, with any flags, time, wave and dB. A turn settles nothing, and may come too
abbrev pub FromBox : List (List ℕ) → Call → Type 0
FromBox ys (queues k l bs) = Unit {0}
FromBox ys (hears h (ConnAck r) b) = Unit {0}
FromBox ys (hears h (Ack r) b) = ⊥
FromBox ys (hears h (LongAck r) b) = OneOf b ys
FromBox ys (hears h (Turn r) b) = Unit {0}
FromBox ys (receives h r bs) = EachOneOf (decoded_in r bs) ys
FromBox ys (bursts out) = Unit {0}
