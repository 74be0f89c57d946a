-- The bytes that have begun to fly are below 256, since those queued are: by demand 3's sentences that each message queued is in exactly one
-- place, and that flown bytes are those of the messages begun. Assumes nothing.
use Prim.Native.Nat.{ℕ, zero, suc, ◌+◌, ◌≤◌}
use mathlib.Core.Path.{◌≡◌, refl, sym, ap, ◌∙◌, subst}
use mathlib.Core.Bool.{Bool, true, false, ◌||◌, false≢true}
use mathlib.Core.List.{List, [], ◌∷◌, ◌++◌, map}
use native.Mathlib.Omega.{arith}
use lib.Dec.{leb}
use lib.ListN.{length}
use borrow.Author.Tests.{lt-leb, leb-false}
use Rattle.std.proofs.Common.{Option, Some, None}
use Rattle.laws.specs.Bytes.{Bytes}
use Rattle.laws.specs.Lists.{one}
use Rattle.laws.proofs.Lists.{one_none}
use Rattle.laws.proofs.Picks.{either, or_no}
use Rattle.config.specs.declared.Profile.{Profile}
use Rattle.ledger.specs.Calls.{Along, history}
use Rattle.ledger.specs.Ledger.{Frame}
use Rattle.ledger.specs.Queue.{Message, message_bytes, message, count_those, rest}
use Rattle.ledger.specs.Tally.{Event, silent, took, replies, went, messages_told, byte_of}
use Rattle.report.specs.Ack.{ack_of}
use Rattle.report.specs.declared.ack.AckInfo.{AckInfo}
use Rattle.replies.specs.declared.Heard.{Heard}
use Rattle.refusals.specs.declared.Reply.{Reply}
use Rattle.refusals.specs.declared.Reply.TheVariants.{ConnAck, Ack, LongAck, Turn}
use Rattle.invariant.proofs.Ledgers.{bytes-joined}
use Rattle.verdicts.specs.Verdicts.{passed}
use Rattle.reception.specs.Reception.{decoded_in}
use Rattle.reception.specs.declared.Reception.{Reception}
use Rattle.sender.specs.Calls.{queue_of, receive_of, frames_of, burst_call}
use Rattle.demand.specs.Lists.{Call, queues, hears, receives, bursts, State, Given, fresh_start, frames_answered, long_event, reply_event, replies_in, next, call_told}
use Rattle.demand.specs.Page.{t as tallied}
use Rattle.demand.proofs.Theorem.{demand3}

-- ---- bytes by a test

-- one of them is no byte
abbrev big : List ℕ → Bool
big [] = false
big (x ∷ xs) = leb 256 x || big xs

neither : (a b : Bool) → (a || b) ≡ false → (a ≡ false) × (b ≡ false)
neither true b e = absurd (false≢true (sym e))
neither false b e = (refl, e)

small : (bs : List ℕ) → Bytes bs → big bs ≡ false
small [] h = refl
small (x ∷ xs) h = or_no (leb 256 x) (big xs) (lt-leb 256 x (h 0)) (small xs (λ i. h (suc i)))

bytes-by : (bs : List ℕ) → big bs ≡ false → Bytes bs
bytes-by [] e i = omega arith
bytes-by (x ∷ xs) e zero = leb-false 256 x (neither (leb 256 x) (big xs) e).0
bytes-by (x ∷ xs) e (suc i) = bytes-by xs (neither (leb 256 x) (big xs) e).1 i

-- ---- messages

abbrev bad : Message → Bool
bad m = big m.bytes

none-append : (xs ys : List Message) → count_those bad xs ≡ 0 → count_those bad ys ≡ 0 → count_those bad (xs ++ ys) ≡ 0
none-append [] ys a b = b
none-append (m ∷ xs) ys a b = omega (arith, a, none-append xs ys (omega (arith, a)) b)

none-bytes : (ms : List Message) → count_those bad ms ≡ 0 → Bytes (message_bytes ms)
none-bytes [] e = λ i. omega arith
none-bytes (m ∷ ms) e = bytes-joined m.bytes (message_bytes ms) (bytes-by m.bytes (one_none (bad m) (omega (arith, e)))) (none-bytes ms (omega (arith, e)))

none-message : (c l : ℕ) (bs : List ℕ) → Bytes bs → count_those bad (message c l bs) ≡ 0
none-message c l [] h = refl
none-message c l (b ∷ bs) h = ap (λ (x : Bool). one x + 0) (small (b ∷ bs) h)

first-bytes : (xs ys : List ℕ) → Bytes (xs ++ ys) → Bytes xs
first-bytes [] ys h i = omega arith
first-bytes (x ∷ xs) ys h zero = h 0
first-bytes (x ∷ xs) ys h (suc i) = first-bytes xs ys (λ j. h (suc j)) i

-- ---- calls

-- what holds of nothing told, of a message taken, of what a reply or a reception tells and of a burst holds of what a call tells
module _ (p : Profile) where
  pub told-by : (P : Event → Type 0) (i : Call) (c : State) → P silent → ((k l : ℕ) (bs : List ℕ) → i ≡ queues k l bs → P (took k l bs))
      → ((h : Heard) (r : Reply) (b : List ℕ) → i ≡ hears h r b → P (reply_event r b))
      → ((h : Heard) (r : Reception) (b : List ℕ) → i ≡ receives h r b → P (replies (replies_in (decoded_in r b))))
      → ((k : ℕ) (fs : List Frame) (out : List ℕ) → i ≡ bursts out → P (went k fs)) → P (call_told p i c)
  told-by P (queues k l bs) c n q h g b = either P (passed (queue_of p c.0 c.1 k l bs).0.verdict) (took k l bs) silent (q k l bs refl) n
  told-by P (hears x r y) c n q h g b = either P (passed (receive_of p c.0 c.1 x r y).0.verdict) (reply_event r y) silent (h x r y refl) n
  told-by P (receives x r y) c n q h g b =
      either P (passed (frames_of p c.0 c.1 x r y).0.verdict) (replies (replies_in (decoded_in r y))) silent (g x r y refl) n
  told-by P (bursts out) c n q h g b =
      let x = (burst_call p c.0 c.1 out).0 in
      either P (passed x.verdict) (went x.outgoing.number (frames_answered x.outgoing.frames)) silent
      (b x.outgoing.number (frames_answered x.outgoing.frames) out refl) n

  long-queues : (x : Option AckInfo) → messages_told (long_event x) ≡ []
  long-queues None = refl
  long-queues (Some i) = refl

  reply-queues : (r : Reply) (b : List ℕ) → messages_told (reply_event r b) ≡ []
  reply-queues (ConnAck r) b = refl
  reply-queues (Ack r) b = refl
  reply-queues (LongAck r) b = long-queues (ack_of b)
  reply-queues (Turn r) b = refl

  none_told : (i : Call) (c : State) → Given i c → count_those bad (messages_told (call_told p i c)) ≡ 0
  none_told i c g =
      told-by (λ (e : Event). count_those bad (messages_told e) ≡ 0) i c refl (λ k l bs e. none-message k l bs (subst (λ (j : Call). Given j c) e g))
      (λ h r b e. ap (count_those bad) (reply-queues r b)) (λ h r b e. refl) (λ k fs out e. refl)

  none-queued : (is : List Call) (c : State) → Along (next p) Given is c → count_those bad (history (next p) (call_told p) is c) ≡ 0
  none-queued [] c g = refl
  none-queued (i ∷ is) c g =
      none-append (messages_told (call_told p i c)) (history (next p) (call_told p) is (next p i c)) (none_told i c g.0) (none-queued is (next p i c) g.1)

  pub flown-typed : length p.codes.ends ≤ 6 → (n : ℕ) (is : List Call) → Along (next p) Given is (fresh_start n) → Bytes (map byte_of (tallied p n is).flown)
  flown-typed six n is g =
      let a = (demand3 p six n is g).0 in
      let t = tallied p n is in
      first-bytes (map byte_of t.flown) (rest t.queue)
      (subst Bytes (sym a.whole) (none-bytes t.began (omega (arith, a.each bad, none-queued is (fresh_start n) g))))
