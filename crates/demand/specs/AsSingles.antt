-- A RECEPTION EQUALS THE SINGLE CALLS IN THEIR ORDER, in record, work area and answers, and to the tally too (document 02, Change 7). The claim
-- is `AsSingles`, at the end. Definitions only.
-- To believe beside it: Lists.antt (a call, what it leaves, what the tally is told of it) and Single.antt's `call_answer` (what it answers); of
-- crates/reception Reception.antt (the frames as they are handed in, and which of them are read); of crates/ledger Calls.antt.
use Rattle.std.specs.Prelude.{◌≡◌, List, [], ◌∷◌, cond, ℕ, ◌≤◌, length}
use Rattle.laws.specs.Bytes.{Bytes}
use Rattle.limits.specs.Limits.{max_slots}
use Rattle.config.specs.declared.Profile.{Profile}
use Rattle.ledger.specs.Calls.{Along, run, tally}
use Rattle.ledger.specs.Tally.{Tally, feed}
use Rattle.invariant.specs.Invariant.{TypedGear}
use Rattle.replies.specs.declared.Heard.{Heard}
use Rattle.refusals.specs.Refusals.{max_received}
use Rattle.refusals.specs.declared.Reply.TheVariants.{LongAck}
use Rattle.reception.specs.Reception.{Decoded, decoded_in, is_ack_read, flags_of}
use Rattle.reception.specs.declared.Reception.{Reception}
use Rattle.demand.specs.Lists.{Call, hears, receives, State, next, call_told}
use Rattle.demand.specs.Single.{call_answer}

-- the frames that are read, each as a long ack of its own with the reception's time, wave and dB
abbrev pub singles_of : Heard → List Decoded → List Call
singles_of h [] = []
singles_of h (f ∷ fs) = cond (is_ack_read f) (hears h (LongAck (flags_of f.flags)) f.payload ∷ singles_of h fs) (singles_of h fs)

-- what the types say of record and work area: arrays of 64 and of 17, f32s, bytes
pub record Typed (c : State) : Type 0 where
  pub held_off : length c.0.sender.at_peer.off ≡ max_slots
  pub held_bits : length c.0.sender.at_peer.bits ≡ max_slots
  pub sent_off : length c.0.sender.last_burst.off ≡ max_slots
  pub sent_bits : length c.0.sender.last_burst.bits ≡ max_slots
  pub sent_held : length c.0.sender.last_burst.held ≡ max_slots
  pub gear : TypedGear c.0.sender.gear
  pub bytes : Bytes c.1

module _ (p : Profile) (c : State) (h : Heard) (r : Reception) (payloads : List ℕ) where
  abbrev pub reception_call : Call
  reception_call = receives h r payloads

  abbrev pub single_calls : List Call
  single_calls = singles_of h (decoded_in r payloads)

  pub record Equals : Type 0 where
    -- record and work area
    pub state : next p reception_call c ≡ run (next p) single_calls c
    -- each single call, in the state that it finds, answers what the reception answers: all are accepted, or all refused by one number
    pub answers : Along (next p) (λ (i : Call) (d : State). call_answer p i d ≡ call_answer p reception_call c) single_calls c
    -- the tally, whatever it was
    pub tallied : (t : Tally) → feed (call_told p reception_call c) t ≡ tally (next p) (call_told p) single_calls c t
    -- "where no frame is read, 4 to 6 are still checked and the record stays, its last time too"
    pub unread : single_calls ≡ [] → next p reception_call c ≡ c

-- THE CLAIM: of every profile, of every record and work area, sound or not, and of every reception of at most 16 frames
abbrev pub AsSingles : Type 0
AsSingles = (p : Profile) (c : State) (h : Heard) (r : Reception) (payloads : List ℕ) → r.n ≤ max_received → Typed c → Bytes payloads
    → Equals p c h r payloads
