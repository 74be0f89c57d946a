-- A RECEPTION EQUALS THE SINGLE CALLS IN THEIR ORDER: the claim of specs/AsSingles.antt.
-- How it goes: of at most 16 frames the reception is refused by the number that a read frame's single call is refused by (`number_is`). Where it
-- is refused, so is every single call, and nothing changes. Where it is accepted, a long ack leaves a record that takes the next one (`Takes`):
-- sound, connected, at the same time, with the same waiting bytes; so all are accepted, one after the other.
-- Assumes nothing.
use mathlib.Core.Path.{◌≡◌, refl, sym, ap, ◌∙◌, subst}
use mathlib.Core.List.{List, [], ◌∷◌}
use mathlib.Core.Bool.{Bool, true, false, cond, not, ◌&&◌}
use Prim.Native.Nat.{ℕ, zero, suc, ◌≤◌}
use native.Mathlib.Omega.{arith}
use lib.Dec.{leb, ltb}
use lib.Ieee.{Float, le}
use lib.Ieee.Bits.{is_true}
use lib.ListN.{length, drop, get_or}
use borrow.Author.Tests.{le-leb, le-ltb}
use Rattle.std.proofs.Common.{Option}
use Rattle.laws.specs.Bytes.{Bytes}
use Rattle.laws.proofs.Little.{bytes_take, bytes_drop}
use Rattle.laws.proofs.Picks.{test, by, by₂, either, and_yes, and_first, and_second}
use Rattle.ieee.specs.Range.{w64, inside}
use Rattle.ieee.proofs.Tests.{yes}
use Rattle.ieee.proofs.Value.{le_refl, le-no-nan}
use Rattle.limits.specs.Limits.{max_taken}
use Rattle.report.specs.Ack.{info_of, ack_of, report_of}
use Rattle.report.specs.declared.ack.AckInfo.{AckInfo}
use Rattle.config.specs.declared.Profile.{Profile}
use Rattle.config.specs.Ranged.{Ranged}
use Rattle.config.specs.Ranges.{in_range, in_order}
use Rattle.config.proofs.ranges.Ranged.{ranged}
use Rattle.ledger.specs.Calls.{Along, run, tally}
use Rattle.ledger.specs.Ledger as L
use Rattle.ledger.specs.Reply as R
use Rattle.ledger.specs.Reply.{long_ack}
use Rattle.ledger.specs.Tally.{Tally, Event, reply, heard_all, feed}
use Rattle.messages.specs.Messages.{messages_ok}
use Rattle.record.specs.View.{view, store, store_link, store_counts}
use Rattle.record.specs.declared.Sender.{Sender}
use Rattle.record.proofs.View.{Arrays}
use Rattle.soundness.proofs.fields.Sound.{test-sound, sound-test, sound-counted}
use Rattle.laws.proofs.Bytes.{length_part}
use Rattle.settle.specs.AckIn.{keeps, ack_in}
use Rattle.replies.specs.Replies.{ack_noted, with_path, long_db, counted_ack, long_acked}
use Rattle.harq.specs.Held.{h_max}
use Rattle.gear.specs.Setters.{with_class}
use Rattle.record.specs.Setters.{with_gear, with_link}
use Rattle.replies.specs.declared.Heard.{Heard}
use Rattle.replies.specs.declared.LongAck as A
use Rattle.receive.specs.Accepted.{long_read}
use Rattle.queuing.specs.Station.{with_sender}
use Rattle.queuing.specs.declared.Station.{Station}
use Rattle.invariant.proofs.Well.{Well}
use Rattle.invariant.proofs.Replies.{long-well, info-in}
use Rattle.refusals.specs.declared.Reply.TheVariants.{LongAck}
use Rattle.refusals.specs.Verdict.{Verdict}
use Rattle.refusals.specs.Verdict.{Accepted, BadTime, BadValue, ShortPayload}
use Rattle.refusals.specs.Refusals.{number_of, max_received, time_ok, heard_ok, reply_ok}
use Rattle.verdicts.specs.Verdicts.{passed, station_ok, taken_by, standing, first_of, reply_verdict, hearing_verdict, frames_standing, receive_verdict, frames_verdict}
use Rattle.verdicts.proofs.Passed.{stands, Receives, frames-passed}
use Rattle.reception.specs.Reception.{Decoded, decoded_from, decoded_in, is_ack_read, flags_of, frames_heard}
use Rattle.reception.specs.declared.Reception.{Reception}
use Rattle.reception.proofs.Laws.{read-long, read-info}
use Rattle.sender.proofs.Refused.{receive-verdict, frames-verdict}
use Rattle.demand.specs.Lists.{Call, hears, receives, State, long_event, replies_in, next, call_told}
use Rattle.demand.specs.Single.{CallAnswer, just_verdict, call_answer}
use Rattle.demand.specs.AsSingles.{singles_of, Typed, Equals, AsSingles}
use Rattle.demand.proofs.Answers.{hear-yes, hear-no, hear-told, frames-yes, frames-no, frames-told}
use Rattle.demand.proofs.Connected.{stands_on}
use Rattle.demand.proofs.Values.{time-in}

-- a frame that is read, as a call
abbrev pub single : Heard → Decoded → Call
single h f = hears h (LongAck (flags_of f.flags)) f.payload

-- ---- the number

few-stands : (v : Verdict) (n : ℕ) → n ≤ max_received → frames_standing v n ≡ v
unfolding frames_standing
few-stands v n h = rw (le-ltb max_received n h) (either (λ (x : Verdict). x ≡ v) (ltb 0 (number_of v) && leb (number_of v) 3) v v refl refl)

heard-same : (last : Float) (h : Heard) (r : A.LongAck) (n : ℕ) → 13 ≤ n → hearing_verdict last h ≡ reply_verdict last h (LongAck r) n
unfolding hearing_verdict reply_verdict reply_ok
heard-same last h r n l = rw (le-ltb n 13 l) (go (time_ok last h.time) (heard_ok h))
  where
    go : (a b : Bool) → cond (not a) BadTime (cond (not b) BadValue Accepted) ≡ cond (not a) BadTime (cond (not (b && true)) BadValue (cond (true && false) ShortPayload Accepted))
    go true true = refl
    go true false = refl
    go false b = refl

module _ (p : Profile) (h : Heard) where
  abbrev single_verdict : Decoded → State → Verdict
  single_verdict f c = receive_verdict p c.0 c.1 h (LongAck (flags_of f.flags)) (length f.payload)

  number_is : (c : State) (n : ℕ) → n ≤ max_received → (f : Decoded) → is_ack_read f ≡ true → frames_verdict p c.0 c.1 h n ≡ single_verdict f c
  unfolding frames_verdict receive_verdict
  number_is c n l f e =
      λ i. first_of (few-stands (standing p c.0 c.1 false) n l i)
      (heard-same c.0.sender.link.last_time h (flags_of f.flags) (length f.payload) (read-long f e) i)

  said-single : (f : Decoded) (c : State) → call_answer p (single h f) c ≡ just_verdict (single_verdict f c)
  said-single f c = ap just_verdict (receive-verdict p c.0 c.1 h (LongAck (flags_of f.flags)) f.payload)

  -- ---- refused: so is every single call

  module _ (c : State) (v : Verdict) (no : (f : Decoded) → is_ack_read f ≡ true → (v ≡ single_verdict f c) × (passed (single_verdict f c) ≡ false)) where
    stays : (f : Decoded) → is_ack_read f ≡ true → next p (single h f) c ≡ c
    stays f e = hear-no p c h (LongAck (flags_of f.flags)) f.payload (no f e).1

    none-run : (fs : List Decoded) → run (next p) (singles_of h fs) c ≡ c
    none-run [] = refl
    none-run (f ∷ fs) =
        by (λ (is : List Call). run (next p) is c ≡ c) (is_ack_read f) (λ e. ap (run (next p) (singles_of h fs)) (stays f e) ∙ none-run fs) (λ e. none-run fs)

    none_told : (fs : List Decoded) (t : Tally) → tally (next p) (call_told p) (singles_of h fs) c t ≡ t
    none_told [] t = refl
    none_told (f ∷ fs) t =
        by (λ (is : List Call). tally (next p) (call_told p) is c t ≡ t) (is_ack_read f)
        (λ e.
        ap (λ (d : State). tally (next p) (call_told p) (singles_of h fs) d (feed (call_told p (single h f) c) t)) (stays f e)
        ∙ ap (λ (x : Event). tally (next p) (call_told p) (singles_of h fs) c (feed x t)) (hear-told p c h (LongAck (flags_of f.flags)) f.payload false (no f e).1)
        ∙ none_told fs t)
        (λ e. none_told fs t)

    abbrev Says : Call → State → Type 0
    Says i d = call_answer p i d ≡ just_verdict v

    none_said : (fs : List Decoded) → Along (next p) Says (singles_of h fs) c
    none_said [] = tt
    none_said (f ∷ fs) =
        by (λ (is : List Call). Along (next p) Says is c) (is_ack_read f)
        (λ e. (said-single f c ∙ sym (ap just_verdict (no f e).0), subst (Along (next p) Says (singles_of h fs)) (sym (stays f e)) (none_said fs)))
        (λ e. none_said fs)

-- ---- accepted: one after the other

abbrev pub EachBytes : List Decoded → Type 0
EachBytes [] = Unit {0}
EachBytes (f ∷ fs) = Bytes f.payload × EachBytes fs

from_bytes : (r : Reception) (n i : ℕ) (bs : List ℕ) → Bytes bs → EachBytes (decoded_from r n i bs)
from_bytes r zero i bs b = tt
from_bytes r (suc n) i bs b =
    let l = get_or r.len i 0 in (bytes_take l bs b, from_bytes r n (suc i) (drop l bs) (bytes_drop l bs b))

pub each-bytes : (r : Reception) (bs : List ℕ) → Bytes bs → EachBytes (decoded_in r bs)
each-bytes r bs b = from_bytes r r.n 0 bs b

-- no ack changes the next offset, nor what waits
ack-counts : (top : ℕ) (r : R.Reply) (keep : Bool) (l : L.Sender) → ((L.hear_ack top r keep l).next ≡ l.next) × ((L.hear_ack top r keep l).waiting ≡ l.waiting)
unfolding L.hear_ack L.settle_burst L.clear_burst
ack-counts top r keep l =
    let Same : L.Sender → Type 0 = λ x. (x.next ≡ l.next) × (x.waiting ≡ l.waiting) in
    either Same l.awaited _ _ (either Same (L.settles r l) _ _ (refl, refl) (refl, refl)) (refl, refl)

module _ (p : Profile) (rg : Ranged p) (ir : in_range p ≡ true) (io : in_order p ≡ true) (h : Heard) (heard : heard_ok h ≡ true) where
  -- a record that takes a long ack at the reception's time
  pub record Takes (c : State) : Type 0 where
    pub well : Well p c.0.sender c.1
    pub listed : messages_ok c.0.sender.counts.waiting c.0.messages ≡ true
    pub taken : taken_by c.0.sender.counts c.0.messages ≤ max_taken
    pub connected : c.0.sender.link.connected ≡ true
    pub time : time_ok c.0.sender.link.last_time h.time ≡ true

  sound-still : (c : State) → Takes c → station_ok p c.0 c.1 ≡ true
  sound-still c k = and_yes _ _ k.listed (and_yes _ _ (sound-test p c.0.sender c.1 k.well.sound k.well.arrays) (le-leb _ _ k.taken))

  takes-it : (c : State) → Takes c → (f : Decoded) → is_ack_read f ≡ true → single_verdict p h f c ≡ Accepted
  unfolding receive_verdict reply_verdict reply_ok
  takes-it c k f e = rw (stands p c.0 c.1 false ir io (sound-still c k) k.connected, k.time, heard, le-ltb (length f.payload) 13 (read-long f e)) refl

  pub takes : (c : State) → Takes c → (f : Decoded) → is_ack_read f ≡ true → passed (single_verdict p h f c) ≡ true
  takes c k f e = ap passed (takes-it c k f e)

  takes_all : (c : State) → Takes c → (n : ℕ) → n ≤ max_received → frames_verdict p c.0 c.1 h n ≡ Accepted
  unfolding frames_verdict hearing_verdict
  takes_all c k n l =
      rw (few-stands (standing p c.0 c.1 false) n l, stands p c.0 c.1 false ir io (sound-still c k) k.connected, k.time, heard) refl

  -- the link and the counts after a long ack
  abbrev Linked : Sender → Sender × List ℕ → Type 0
  Linked s x = (x.0.link.connected ≡ s.link.connected) × (x.0.link.last_time ≡ h.time)

  linked : (r : A.LongAck) (i : AckInfo) (s : Sender) (a : List ℕ) → Linked s (long_acked p h r i s a)
  unfolding long_acked ack_in store store_link
  linked r i s a = either (Linked s) s.link.awaiting _ _ (refl, refl) (refl, refl)

  abbrev Counts : Sender → Sender × List ℕ → Type 0
  Counts s x = (x.0.counts.next_offset ≡ s.counts.next_offset) × (x.0.counts.waiting ≡ s.counts.waiting)

  waiting-length : (s : Sender) (a : List ℕ) → Well p s a → length (view s a).waiting ≡ s.counts.waiting
  unfolding view
  waiting-length s a w =
      let d = sound-counted p s a w.sound in
      length_part a s.counts.flying s.counts.waiting (omega (arith, d.stream, d.area))

  ack-counted : (r : R.Reply) (stored : Bool) (snr now : Float) (s : Sender) (a : List ℕ)
      → let x = (ack_in p r stored snr now s a).0.counts in (x.next_offset ≡ s.counts.next_offset) × (x.waiting ≡ length (view s a).waiting)
  unfolding ack_in store store_counts view
  ack-counted r stored snr now s a = let x = ack-counts (h_max p.codes) r (keeps p s.gear stored) (view s a) in (x.0, ap length x.1)

  counted : (r : A.LongAck) (i : AckInfo) (s : Sender) (a : List ℕ) → Well p s a → Counts s (long_acked p h r i s a)
  unfolding long_acked view
  counted r i s a w =
      let k = ack_noted s.link h.time r.want_turn r.want_disc i.burst in
      let q = with_link (with_gear s (with_class s.gear (report_of i).class)) (with_path k (report_of i).slot (report_of i).doppler_hz) in
      let x = ack-counted (long_ack i.burst i.bitmap) r.stored (long_db p i) h.time q a in
      either (Counts s) s.link.awaiting (counted_ack p h (ack_in p (long_ack i.burst i.bitmap) r.stored (long_db p i) h.time q a)) (with_link s k, a)
      (x.0, x.1 ∙ waiting-length s a w) (refl, refl)

  same-time : (last : Float) → time_ok last h.time ≡ true → time_ok h.time h.time ≡ true
  unfolding time_ok
  same-time last e =
      let i = and_first (inside (w64 0) (w64 1000000000) h.time) (le last h.time) e in
      let n = (le-no-nan last h.time (yes {b = le last h.time} (and_second (inside (w64 0) (w64 1000000000) h.time) (le last h.time) e))).1 in
      and_yes _ _ i (is_true (le h.time h.time) (le_refl h.time n))

  -- what a frame that is read leaves
  abbrev pub after : Decoded → State → State
  after f c =
      let x = long_read p h (flags_of f.flags) (ack_of f.payload) c.0.sender c.1 in
      (with_sender c.0 x.0, x.1)

  abbrev read : Decoded → Option AckInfo → State → State
  read f i c = let x = long_read p h (flags_of f.flags) i c.0.sender c.1 in (with_sender c.0 x.0, x.1)

  pub after-takes : (f : Decoded) (c : State) → is_ack_read f ≡ true → Bytes f.payload → Takes c → Takes (after f c)
  after-takes f c e b k =
      subst (λ (x : Option AckInfo). Takes (read f x c)) (sym (read-info f.payload (read-long f e)))
      (let s = c.0.sender in
      let g = flags_of f.flags in
      let i = info_of f.payload in
      let l = linked g i s c.1 in
      let n = counted g i s c.1 k.well in
      record {
        well = long-well p rg io h g i s c.1 (info-in p h f.payload b (time-in s.link.last_time h.time k.time)) k.well;
        listed = ap (λ (w : ℕ). messages_ok w c.0.messages) n.1 ∙ k.listed;
        taken = omega (arith, n.0, n.1, k.taken);
        connected = l.0 ∙ k.connected;
        time = subst (λ (t : Float). time_ok t h.time ≡ true) (sym l.1) (same-time s.link.last_time k.time);
      })

  pub next-is : (f : Decoded) (c : State) → Takes c → is_ack_read f ≡ true → next p (single h f) c ≡ after f c
  next-is f c k e = hear-yes p c h (LongAck (flags_of f.flags)) f.payload (takes c k f e)

  -- the record with its messages, and the work area
  abbrev whole : Station → Sender × List ℕ → State
  whole t x = (with_sender t x.0, x.1)

  all-run : (fs : List Decoded) (c : State) → EachBytes fs → Takes c → whole c.0 (frames_heard p h fs (c.0.sender, c.1)) ≡ run (next p) (singles_of h fs) c
  unfolding frames_heard
  all-run [] c b k = refl
  all-run (f ∷ fs) c b k =
      by₂ (λ (d : Sender × List ℕ) (is : List Call). whole c.0 (frames_heard p h fs d) ≡ run (next p) is c) (is_ack_read f)
      (λ e. all-run fs (after f c) b.1 (after-takes f c e b.0 k) ∙ ap (run (next p) (singles_of h fs)) (sym (next-is f c k e)))
      (λ e. all-run fs c b.1 k)

  pub told_is : (f : Decoded) (c : State) → Takes c → is_ack_read f ≡ true → call_told p (single h f) c ≡ reply (long_ack (info_of f.payload).burst (info_of f.payload).bitmap)
  told_is f c k e =
      hear-told p c h (LongAck (flags_of f.flags)) f.payload true (takes c k f e) ∙ ap long_event (read-info f.payload (read-long f e))

  all_told : (fs : List Decoded) (c : State) (t : Tally) → EachBytes fs → Takes c → heard_all (replies_in fs) t ≡ tally (next p) (call_told p) (singles_of h fs) c t
  all_told [] c t b k = refl
  all_told (f ∷ fs) c t b k =
      test (is_ack_read f)
      (λ e.
      let i = info_of f.payload in
      rw e
      (all_told fs (after f c) (feed (reply (long_ack i.burst i.bitmap)) t) b.1 (after-takes f c e b.0 k)
      ∙ ap (λ (d : State). tally (next p) (call_told p) (singles_of h fs) d (feed (reply (long_ack i.burst i.bitmap)) t)) (sym (next-is f c k e))
      ∙ ap (λ (x : Event). tally (next p) (call_told p) (singles_of h fs) (next p (single h f) c) (feed x t)) (sym (told_is f c k e))))
      (λ e. rw e (all_told fs c t b.1 k))

  all_said : (fs : List Decoded) (c : State) → EachBytes fs → Takes c → Along (next p) (λ (i : Call) (d : State). call_answer p i d ≡ just_verdict Accepted) (singles_of h fs) c
  all_said [] c b k = tt
  all_said (f ∷ fs) c b k =
      by (λ (is : List Call). Along (next p) (λ (i : Call) (d : State). call_answer p i d ≡ just_verdict Accepted) is c) (is_ack_read f)
      (λ e. (
        said-single p h f c ∙ ap just_verdict (takes-it c k f e),
        subst (Along (next p) (λ (i : Call) (d : State). call_answer p i d ≡ just_verdict Accepted) (singles_of h fs)) (sym (next-is f c k e))
            (all_said fs (after f c) b.1 (after-takes f c e b.0 k)),
      ))
      (λ e. all_said fs c b.1 k)

-- ---- THE THEOREM

typed-arrays : (c : State) → Typed c → Arrays c.0.sender
typed-arrays c ty = record { held_off = ty.held_off; held_bits = ty.held_bits; sent_off = ty.sent_off; sent_bits = ty.sent_bits; sent_held = ty.sent_held }

-- what a reception that is accepted finds
pub finds : (p : Profile) (rg : Ranged p) (io : in_order p ≡ true) (h : Heard) (c : State) (n : ℕ) → Typed c
    → (q : Receives p c.0 c.1 h n) → Takes p rg q.stands.0 io h q.heard c
finds p rg io h c n ty q =
    let ar = typed-arrays c ty in
    record {
      well = record { sound = test-sound p c.0.sender c.1 ar q.stands.2; arrays = ar; bytes = ty.bytes; typed = ty.gear };
      listed = q.stands.3;
      taken = q.stands.4;
      connected = stands_on p c.0 c.1 q.standing;
      time = q.time;
    }

module _ (p : Profile) (c : State) (h : Heard) (r : Reception) (bs : List ℕ) (few : r.n ≤ max_received) (ty : Typed c) (by8 : Bytes bs) where
  abbrev v : Verdict
  v = frames_verdict p c.0 c.1 h r.n

  abbrev fs : List Decoded
  fs = decoded_in r bs

  all-taken : passed v ≡ true → Equals p c h r bs
  all-taken e =
      let q = frames-passed p c.0 c.1 h r.n e in
      let ir = q.stands.0 in
      let io = q.stands.1 in
      let ok = q.heard in
      let rg = ranged p ir in
      let k = finds p rg io h c r.n ty q in
      let b = each-bytes r bs by8 in
      let run_is = frames-yes p c h r bs e ∙ all-run p rg ir io h ok fs c b k in
      let whole_says : call_answer p (receives h r bs) c ≡ just_verdict Accepted = ap just_verdict (frames-verdict p c.0 c.1 h r bs ∙ takes_all p rg ir io h ok c k r.n few) in
      record {
        state = run_is;
        answers = subst (λ (x : CallAnswer). Along (next p) (λ (i : Call) (d : State). call_answer p i d ≡ x) (singles_of h fs) c) (sym whole_says) (all_said p rg ir io h ok fs c b k);
        tallied = λ t. ap (λ (x : Event). feed x t) (frames-told p c h r bs true e) ∙ all_told p rg ir io h ok fs c t b k;
        unread = λ n. run_is ∙ ap (λ (is : List Call). run (next p) is c) n;
      }

  all-refused : passed v ≡ false → Equals p c h r bs
  all-refused e =
      let no : (f : Decoded) → is_ack_read f ≡ true → (v ≡ single_verdict p h f c) × (passed (single_verdict p h f c) ≡ false) =
      λ f t. let n = number_is p h c r.n few f t in (n, ap passed (sym n) ∙ e) in
      let stay = frames-no p c h r bs e in
      record {
        state = stay ∙ sym (none-run p h c v no fs);
        answers = subst (λ (x : CallAnswer). Along (next p) (λ (i : Call) (d : State). call_answer p i d ≡ x) (singles_of h fs) c) (sym (ap just_verdict (frames-verdict p c.0 c.1 h r bs))) (none_said p h c v no fs);
        tallied = λ t. ap (λ (x : Event). feed x t) (frames-told p c h r bs false e) ∙ sym (none_told p h c v no fs t);
        unread = λ n. stay;
      }

pub as-singles : AsSingles
as-singles p c h r bs few ty by8 = test (passed (frames_verdict p c.0 c.1 h r.n)) (all-taken p c h r bs few ty by8) (all-refused p c h r bs few ty by8)
