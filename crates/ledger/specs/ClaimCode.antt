-- What the ledger proves for demand 3 (crates/demand/specs/Page.antt states it): follows the code or serves proofs; nothing here has to be believed.
use Rattle.std.specs.Prelude.{ℕ, ◌+◌, ◌≤◌, ◌≡◌, Bool, true, ◌&&◌, ◌||◌, List, [], ◌∷◌, ◌++◌, map, ltb, length, take, drop}
use Rattle.laws.specs.Lists.{listed}
use Rattle.limits.specs.Limits.{max_flying, max_pieces}
use Rattle.ledger.specs.Ledger.{Piece, Frame, Sender, size, find, offs, held_offs}
use Rattle.ledger.specs.Queue.{Message, message_bytes, behind, rest, count_those, withdraws, of_class, Ascending, Sublist}
use Rattle.ledger.specs.Station.{Station}
use Rattle.ledger.specs.Tally.{Tally, waits, Event, byte_of, in_flight, acknowledged, feed, frames_told}
use Rattle.ledger.specs.Claim.{covering, flying_at, acked_at, settled_by}
use Rattle.ledger.specs.CoverCode.{Ascend}
use Rattle.ledger.specs.Sizes.{Sizes}

-- each frame has 1 byte or more, and carries those of `bs` at its offset, as many as its length says
abbrev pub Carry : List ℕ → List Piece → List Frame → Type 0
Carry bs ps [] = Unit {0}
Carry bs ps (f ∷ fs) =
    (1 ≤ f.len) × (length (find f.off ps) ≡ f.len) × (find f.off ps ≡ take f.len (drop f.off bs)) × Carry bs ps fs

-- after a list of calls that queued the messages ms and left the station st and the tally t; one further call, told as e, leaves the sender
-- s'
pub record LedgerClaim (z : Sizes) (ms : List Message) (st : Station) (t : Tally) (e : Event) (s' : Sender) : Type 0 where
  pub sum : t.taken ≡ length (waits t) + in_flight t.flown + acknowledged t.flown + length (message_bytes t.withdrawn)
  pub taken : t.taken ≡ length (message_bytes ms)
  pub each : (p : Message → Bool) →
      count_those p ms ≡ count_those p t.began + count_those p (behind t.queue.begun t.queue.messages) + count_those p t.withdrawn
  pub history : map byte_of t.flown ++ rest t.queue ≡ message_bytes t.began
  pub waiting : st.sender.waiting ≡ waits t
  pub queue : st.queue ≡ t.queue
  pub withdrawn : st.withdrawn ≡ length (message_bytes t.withdrawn)
  pub order : Ascending 0 (behind t.queue.begun t.queue.messages)
  pub earliest : (c : ℕ) → Sublist (of_class c t.began ++ of_class c (behind t.queue.begun t.queue.messages)) (of_class c ms)
  pub newest : (l : ℕ) → count_those (λ (m : Message). withdraws l m.label) (behind t.queue.begun t.queue.messages) ≤ 1
  pub covers : (o : ℕ) → covering o st.sender.pieces ≡ flying_at o t.flown
  pub in_pieces : size st.sender.pieces ≡ in_flight t.flown
  pub ascends : Ascend z.long 0 st.sender.next st.sender.pieces
  pub holds : (o : ℕ) → listed o (offs st.sender.pieces) ≡ true →
      find o st.sender.pieces ≡ take (length (find o st.sender.pieces)) (drop o (map byte_of t.flown))
  pub next : st.sender.next ≡ length t.flown
  pub exactly : (o : ℕ) → acked_at o (feed e t).flown ≡ acked_at o t.flown || (ltb o (length t.flown) && settled_by e t.out o)
  pub acked : st.sender.acked ≡ acknowledged t.flown
  pub carries : Carry (map byte_of (feed e t).flown) s'.pieces (frames_told e)
  pub keeps : (o : ℕ) → listed o (held_offs st.sender.held) ≡ true → listed o (held_offs s'.held) ≡ true →
      (1 ≤ length (find o st.sender.pieces)) × (find o s'.pieces ≡ find o st.sender.pieces)
  pub flying : in_flight t.flown ≤ max_flying
  pub pieces : length st.sender.pieces ≤ max_pieces
