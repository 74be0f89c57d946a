-- "WITH A SINGLE CLASS AND NO LABELS THE RUST IS STILL EQUALLED": the claim of specs/Single.antt.
-- A call on a station whose messages are sound and all of the class k, and which has withdrawn nothing, does to sender and work area
-- what the base's call does, and answers the same: the verdicts agree (`standing-same`, `queue-same`), a new message goes last
-- (`single`), and replies and bursts are the base's own. That its messages are so holds after every call: where the calls get through by
-- `does`, and where every call is refused because nothing changes.
-- Assumes nothing.
use mathlib.Core.Path.{◌≡◌, refl, sym, ap, ap₂, ◌∙◌, subst}
use mathlib.Core.List.{List, [], ◌∷◌, ◌++◌, append-nil}
use mathlib.Core.Bool.{Bool, true, false, cond, ◌&&◌, false≢true}
use Prim.Native.Nat.{ℕ, ◌+◌, ◌-◌, ◌≤◌}
use native.Mathlib.Omega.{arith}
use lib.Dec.{ltb, leb, eqb}
use lib.ListN.{length, replicate, length-replicate}
use borrow.Author.Tests.{eqb-true, ne_eqb, le-ltb, leb-true, leb-false, le-leb}
use Rattle.std.proofs.Common.{Option, Some, None}
use Rattle.laws.proofs.Picks.{by, by₂, test, and_first, and_second, and_yes, or_right}
use Rattle.laws.proofs.Tests.{all-at}
use Rattle.limits.specs.Limits.{max_taken, max_class, max_messages}
use Rattle.config.specs.declared.Profile.{Profile}
use Rattle.config.specs.Ranged.{Ranged}
use Rattle.config.specs.Ranges.{in_range, in_order}
use Rattle.config.proofs.ranges.Ranged.{ranged}
use Rattle.area.specs.Layout.{area_bytes}
use Rattle.area.specs.Room.{queue_refusal}
use Rattle.ledger.specs.Calls.{Along, run}
use Rattle.ledger.specs.CallsCode as C
use Rattle.ledger.specs.Ledger as L
use Rattle.ledger.specs.Queue.{Message, message_bytes, goes, enqueue}
use Rattle.ledger.specs.Station as St
use Rattle.ledger.specs.Station.{take_in}
use Rattle.messages.specs.Messages.{messages_ok, queue_in, total_left, withdrawn_in}
use Rattle.messages.specs.declared.Withdrawal.{Withdrawal}
use Rattle.messages.proofs.Withdrawn.{superseded-none}
use Rattle.messages.proofs.Kept.{sound-ok, sound_none}
use Rattle.queuing.specs.Station.{view_station, store_station, queued_in, fresh_station}
use Rattle.queuing.proofs.Queuing.{stored-already}
use Rattle.queuing.proofs.Shown.{goes-shown, fresh-shows}
use Rattle.record.specs.View.{view, store, store_area}
use Rattle.record.specs.declared.Sender.{Sender}
use Rattle.record.proofs.View.{Arrays, Counted}
use Rattle.soundness.specs.Soundness.{sound_ok}
use Rattle.soundness.proofs.fields.Counts.{taken-few}
use Rattle.soundness.proofs.fields.Sound.{sound-counted}
use Rattle.replies.specs.declared.Heard.{Heard}
use Rattle.refusals.specs.Verdict.{Verdict}
use Rattle.refusals.specs.Verdict.{Accepted, QueueFull, AllTaken, BadClass, TooManyMessages}
use Rattle.refusals.specs.declared.Reply.{Reply}
use Rattle.refusals.specs.declared.Reply.TheVariants.{ConnAck, Ack, LongAck, Turn}
use Rattle.refusals.specs.Refusals.{number_of, kind_of}
use Rattle.report.specs.declared.ack.AckInfo.{AckInfo}
use Rattle.report.specs.Ack.{ack_of}
use Rattle.verdicts.specs.Verdicts.{passed, station_ok, taken_by, first_of, standing, room_verdict, reply_verdict, hearing_verdict, frames_standing, output_verdict}
use Rattle.verdicts.specs.Verdicts.{queue_verdict, receive_verdict, frames_verdict, burst_verdict}
use Rattle.receive.specs.Accepted.{accepted_reply}
use Rattle.reception.specs.Reception.{decoded_in, frames_heard}
use Rattle.reception.specs.declared.Reception.{Reception}
use Rattle.outgoing.specs.Outgoing.{burst_of}
use Rattle.outgoing.specs.declared.Outgoing.{Outgoing}
use Rattle.sender.specs.Base.{standing_base, queue_verdict_base, queue_base, receive_base, frames_base, burst_base}
use Rattle.sender.specs.Calls.{Answer, Bursted, queue_of, receive_of, frames_of, no_burst, burst_call}
use Rattle.demand.specs.Lists.{Call, queues, hears, receives, bursts, State, Given, fresh_start, shown, next}
use Rattle.demand.specs.Single.{BaseCall, plain, CallAnswer, just_verdict, BaseState, next_base, base_answer, base_answers, call_answer, too_many, erased, call_answers, OneClass, SingleClass}
use Rattle.laws.specs.Bytes.{Bytes}
use Rattle.messages.specs.SoundCode.{SoundMessages}
use Rattle.sender.proofs.Refused.{queue-verdict, receive-verdict, frames-verdict, burst-verdict}
use Rattle.verdicts.proofs.Passed.{queue-passed, queue-room}
use Rattle.replies.specs.declared.LongAck as B
use Rattle.demand.proofs.Answers.{queue-no, hear-no, frames-no, burst-no}
use Rattle.demand.proofs.OneClass.{AllOf, single, superseded-none as superseded-nothing, enqueue-all, flies-all}
use Rattle.demand.proofs.Connected.{quiet_next}
use Rattle.demand.proofs.Steps.{call_of, long_call_of}
use Rattle.demand.proofs.AllCalls.{does, call}
use Rattle.demand.proofs.Reached.{Fit, fresh-fit, stays, refused-by}

abbrev core : State → BaseState
core c = (c.0.sender, c.1)

abbrev Listed : State → Type 0
Listed c = (messages_ok c.0.sender.counts.waiting c.0.messages ≡ true) × (c.0.messages.withdrawn ≡ 0)

-- ---- the verdicts agree

module _ (p : Profile) (c : State) (ok : Listed c) where
  -- document 01's limit of the bytes taken
  sound-taken : sound_ok p c.0.sender c.1 ≡ true → c.0.sender.counts.next_offset + c.0.sender.counts.waiting ≤ max_taken
  unfolding sound_ok
  sound-taken e = taken-few c.0.sender (all-at _ 1 e)

  -- with nothing withdrawn there is no other
  sound-same : station_ok p c.0 c.1 ≡ sound_ok p c.0.sender c.1
  sound-same =
      rw ok.0
      (test (sound_ok p c.0.sender c.1)
      (λ e.
      let few : taken_by c.0.sender.counts c.0.messages ≤ max_taken = omega (arith, sound-taken e, ok.1) in
      rw e (le-leb _ _ few))
      (λ e. rw e refl))

  standing-same : (connect : Bool) → standing p c.0 c.1 connect ≡ standing_base p c.0.sender c.1 connect
  unfolding standing standing_base
  standing-same connect = rw sound-same refl

  abbrev room : ℕ → Verdict → Verdict
  room n last =
      let s = c.0.sender in
      let q = queue_refusal s.counts.waiting (s.counts.next_offset + s.counts.waiting) n in
      cond (eqb q 8) QueueFull (cond (eqb q 9) AllTaken last)

  abbrev judged : ℕ → Verdict → Verdict
  judged n last = first_of (standing_base p c.0.sender c.1 false) (room n last)

  -- not 12: the last test is Accepted's, or another verdict comes before it
  unless-many : (x : Bool) (v : Verdict) (y z b : Bool) → let w = cond x (cond y QueueFull (cond z AllTaken (cond b TooManyMessages Accepted))) v in
      eqb (number_of w) 12 ≡ false → w ≡ cond x (cond y QueueFull (cond z AllTaken Accepted)) v
  unless-many false v y z b e = refl
  unless-many true v true z b e = refl
  unless-many true v false true b e = refl
  unless-many true v false false true e = absurd (false≢true (sym e))
  unless-many true v false false false e = refl

  queue-same : (k : ℕ) → k ≤ max_class → (n : ℕ) → eqb (number_of (queue_verdict p c.0 c.1 k 0 n)) 12 ≡ false
      → queue_verdict p c.0 c.1 k 0 n ≡ queue_verdict_base p c.0.sender c.1 n
  unfolding queue_verdict room_verdict queue_verdict_base
  queue-same k low n e =
      let s = c.0.sender in
      let m = c.0.messages in
      let w = s.counts.waiting in
      let b = ltb 0 n && leb max_messages m.n in
      let none = superseded-none 0 n m (or_right (eqb n 0) true refl) in
      let left : w - total_left (withdrawn_in 0 n m) ≡ w = omega (arith, ap (λ (x : Withdrawal). x.bytes) none) in
      let taken : taken_by s.counts m ≡ s.counts.next_offset + w = omega (arith, ok.1) in
      let rows : m.n - length (withdrawn_in 0 n m) ≡ m.n = omega (arith, ap (λ (x : Withdrawal). x.n) none) in
      let judge : ℕ → ℕ → Verdict =
      λ q r. cond (eqb q 8) QueueFull (cond (eqb q 9) AllTaken (cond (ltb 0 n && leb max_messages r) TooManyMessages Accepted)) in
      let f : queue_verdict p c.0 c.1 k 0 n ≡ judged n (cond b TooManyMessages Accepted) =
      λ i. first_of (standing-same false i) (cond (le-ltb max_class k low i) BadClass (judge (queue_refusal (left i) (taken i) n) (rows i))) in
      let v = standing_base p s c.1 false in
      let q = queue_refusal w (s.counts.next_offset + w) n in
      f ∙ unless-many (passed v) v (eqb q 8) (eqb q 9) b (sym (ap (λ (u : Verdict). eqb (number_of u) 12) f) ∙ e)

-- ---- a call that is not refused by 12 does what the base's does

abbrev Same : Profile → State → Call → Type 0
Same p c i = (core (next p i c) ≡ next_base p (plain i) (core c)) × (call_answer p i c ≡ base_answer p (plain i) (core c))

module _ (p : Profile) (c : State) (ok : Listed c) where
  abbrev s : Sender
  s = c.0.sender

  module _ (h : Heard) (r : Reply) (b : List ℕ) where
    abbrev vr : Verdict
    vr = receive_verdict p c.0 c.1 h r (length b)

    reply-verdict : vr ≡ first_of (standing_base p s c.1 (eqb (kind_of r) 0)) (reply_verdict s.link.last_time h r (length b))
    unfolding receive_verdict
    reply-verdict = ap (λ (v : Verdict). first_of v (reply_verdict s.link.last_time h r (length b))) (standing-same p c ok (eqb (kind_of r) 0))

    reply-same : Same p c (hears h r b)
    unfolding receive_of receive_base
    reply-same = (
      by₂ (λ (y : Answer × List ℕ) (z : BaseState). (y.0.next.sender, y.1) ≡ z) (passed vr) (λ t. refl) (λ t. refl)
          ∙ ap (λ (v : Verdict). cond (passed v) (accepted_reply p h r b s c.1) (core c)) reply-verdict,
      ap just_verdict (receive-verdict p c.0 c.1 h r b ∙ reply-verdict),
    )

  module _ (h : Heard) (r : Reception) (b : List ℕ) where
    abbrev vf : Verdict
    vf = frames_verdict p c.0 c.1 h r.n

    frames-verdict-same : vf ≡ first_of (frames_standing (standing_base p s c.1 false) r.n) (hearing_verdict s.link.last_time h)
    unfolding frames_verdict
    frames-verdict-same = ap (λ (v : Verdict). first_of (frames_standing v r.n) (hearing_verdict s.link.last_time h)) (standing-same p c ok false)

    frames-same : Same p c (receives h r b)
    unfolding frames_of frames_base
    frames-same = (
      by₂ (λ (y : Answer × List ℕ) (z : BaseState). (y.0.next.sender, y.1) ≡ z) (passed vf) (λ t. refl) (λ t. refl)
          ∙ ap (λ (v : Verdict). cond (passed v) (frames_heard p h (decoded_in r b) (s, c.1)) (core c)) frames-verdict-same,
      ap just_verdict (frames-verdict p c.0 c.1 h r b ∙ frames-verdict-same),
    )

  module _ (out : List ℕ) where
    abbrev vb : Verdict
    vb = burst_verdict p c.0 c.1 (length out)

    abbrev Made : Type 0
    Made = (Outgoing × Sender) × (List ℕ × List ℕ)

    burst-verdict-same : vb ≡ first_of (standing_base p s c.1 false) (output_verdict p.long_bytes (length out))
    unfolding burst_verdict
    burst-verdict-same = ap (λ (v : Verdict). first_of v (output_verdict p.long_bytes (length out))) (standing-same p c ok false)

    abbrev made : Verdict → Made
    made v = cond (passed v) (burst_of p s c.1 out) ((no_burst, s), (c.1, out))

    burst-same : Same p c (bursts out)
    unfolding burst_call burst_base
    burst-same = (
      by₂ (λ (y : Bursted × (List ℕ × List ℕ)) (z : Made). ◌≡◌ {A = BaseState} (y.0.next.sender, y.1.0) (z.0.1, z.1.0)) (passed vb) (λ t. refl) (λ t. refl)
          ∙ ap (λ (v : Verdict). let x = made v in (x.0.1, x.1.0)) burst-verdict-same,
      by₂ (λ (y : Bursted × (List ℕ × List ℕ)) (z : Made). ◌≡◌ {A = CallAnswer} (record { verdict = y.0.verdict; outgoing = y.0.outgoing; out = y.1.1 })
          (record { verdict = vb; outgoing = z.0.0; out = z.1.1 })) (passed vb) (λ t. refl) (λ t. refl)
          ∙ ap (λ (v : Verdict). let x = made v in record { verdict = v; outgoing = x.0.0; out = x.1.1 }) burst-verdict-same,
    )

  -- a queuing without a label: all messages of the class k, and the new one goes last
  module _ (k : ℕ) (low : k ≤ max_class) (bs : List ℕ) where
    abbrev after : L.Sender
    after = L.requeue ((view s c.1).waiting ++ bs) (view s c.1)

    abbrev vq : Verdict
    vq = queue_verdict p c.0 c.1 k 0 (length bs)

    module _ (all : AllOf k (shown c).queue.messages) (counted : Counted s c.1) (by8 : Bytes c.1) (ar : Arrays s) (so : SoundMessages c.0.messages s.counts.waiting) where
      queued-last : (x : List ℕ) → x ≡ bs → core (queued_in k 0 x c.0 c.1) ≡ (store after s, store_area after c.1)
      unfolding queued_in take_in store_station view_station
      queued-last [] e =
          let y = stored-already s c.1 counted by8 ar in
          let f : (view s c.1).waiting ≡ (view s c.1).waiting ++ bs = sym (append-nil (view s c.1).waiting) ∙ ap (λ (z : List ℕ). (view s c.1).waiting ++ z) e in
          ap₂ (λ (u : Sender) (v : List ℕ). (u, v)) (sym y.0) (sym y.1)
          ∙ ap (λ (w : List ℕ). (store (L.requeue w (view s c.1)) s, store_area (L.requeue w (view s c.1)) c.1)) f
      queued-last (b ∷ x) e =
          let q = queue_in c.0.messages (view s c.1).waiting in
          let f : goes (enqueue k 0 (b ∷ x) q) ≡ (view s c.1).waiting ++ bs =
          single k (b ∷ x) q all ∙ ap₂ (λ (u v : List ℕ). u ++ v) (goes-shown c.0 c.1 counted so) e in
          ap (λ (w : List ℕ). (store (L.requeue w (view s c.1)) s, store_area (L.requeue w (view s c.1)) c.1)) f

    queue-does : (passed vq ≡ true → core (queued_in k 0 bs c.0 c.1) ≡ (store after s, store_area after c.1))
        → eqb (number_of vq) 12 ≡ false → Same p c (queues k 0 bs)
    unfolding queue_of queue_base
    queue-does last few =
        let e = queue-same p c ok k low (length bs) few in (
          by₂ (λ (y : Answer × List ℕ) (z : BaseState). (y.0.next.sender, y.1) ≡ z) (passed vq) last (λ t. refl)
              ∙ ap (λ (v : Verdict). cond (passed v) (store after s, store_area after c.1) (core c)) e,
          ap just_verdict (queue-verdict p c.0 c.1 k 0 bs ∙ e),
        )

abbrev Ends : Profile → List Call → State → Type 0
Ends p is c = (core (run (next p) is c) ≡ run (next_base p) (erased p is c) (core c)) × (call_answers p is c ≡ base_answers p (erased p is c) (core c))

-- ---- lists, by any invariant under which one call does what the base's does

module _ (p : Profile) (k : ℕ) (Inv : State → Type 0)
    (keeps : (i : Call) (c : State) → Given i c → OneClass k i c → Inv c → Inv (next p i c))
    (stops : (i : Call) (c : State) → Given i c → OneClass k i c → Inv c → too_many p i c ≡ true → core (next p i c) ≡ core c)
    (same : (i : Call) (c : State) → Given i c → OneClass k i c → Inv c → too_many p i c ≡ false → Same p c i) where
  lists : (is : List Call) (c : State) → Along (next p) Given is c → Along (next p) (OneClass k) is c → Inv c → Ends p is c
  lists [] c gs os v = (refl, refl)
  lists (i ∷ is) c gs os v =
      let c' = next p i c in
      let z = lists is c' gs.1 os.1 (keeps i c gs.0 os.0 v) in
      by₂ (λ (calls : List BaseCall) (says : List CallAnswer). (core (run (next p) is c') ≡ run (next_base p) calls (core c)) × (says ≡ base_answers p calls (core c))) (too_many p i c)
      (λ t. subst (λ (x : BaseState). (core (run (next p) is c') ≡ run (next_base p) (erased p is c') x) × (call_answers p is c' ≡ base_answers p (erased p is c') x)) (stops i c gs.0 os.0 v t) z)
      (λ t. let y = same i c gs.0 os.0 v t in (
        z.0 ∙ ap (run (next_base p) (erased p is c')) y.0,
        ap₂ (λ (x : CallAnswer) (xs : List CallAnswer). x ∷ xs) y.1 (z.1 ∙ ap (base_answers p (erased p is c')) y.0),
      ))

-- a call that is refused by 12 changes nothing
not-passed : (v w : Verdict) → w ≡ v → eqb (number_of w) 12 ≡ true → passed v ≡ false
not-passed v w e t = ne_eqb (number_of v) 0 (λ z. omega (arith, z, eqb-true (number_of w) 12 t, ap number_of e))

many-stays : (p : Profile) (i : Call) (c : State) → too_many p i c ≡ true → next p i c ≡ c
many-stays p (queues k l bs) c t = queue-no p c k l bs (not-passed _ _ (queue-verdict p c.0 c.1 k l bs) t)
many-stays p (hears h r b) c t = hear-no p c h r b (not-passed _ _ (receive-verdict p c.0 c.1 h r b) t)
many-stays p (receives h r b) c t = frames-no p c h r b (not-passed _ _ (frames-verdict p c.0 c.1 h r b) t)
many-stays p (bursts out) c t = burst-no p c out (not-passed _ _ (burst-verdict p c.0 c.1 out) t)

not-many : (p : Profile) (c : State) (k l : ℕ) (bs : List ℕ) → too_many p (queues k l bs) c ≡ false
    → eqb (number_of (queue_verdict p c.0 c.1 k l (length bs))) 12 ≡ false
not-many p c k l bs t = ap (λ (v : Verdict). eqb (number_of v) 12) (sym (queue-verdict p c.0 c.1 k l bs)) ∙ t

-- a queuing with class k and no label
module _ (p : Profile) (c : State) (k j l : ℕ) (bs : List ℕ) (o : (j ≡ k) × (l ≡ 0)) where
  plain-few : too_many p (queues j l bs) c ≡ false → eqb (number_of (queue_verdict p c.0 c.1 k 0 (length bs))) 12 ≡ false
  plain-few t =
      sym (ap₂ (λ (x y : ℕ). eqb (number_of (queue_verdict p c.0 c.1 x y (length bs))) 12) o.0 o.1) ∙ not-many p c j l bs t

  plain-same : Same p c (queues k 0 bs) → Same p c (queues j l bs)
  plain-same h = subst (λ (x : ℕ). Same p c (queues x l bs)) (sym o.0) (subst (λ (y : ℕ). Same p c (queues k y bs)) (sym o.1) h)

-- ---- the calls get through

module _ (p : Profile) (rg : Ranged p) (io : in_order p ≡ true) (six : length p.codes.ends ≤ 6) (k : ℕ) (low : k ≤ max_class) where
  -- all messages of the class k, and nothing withdrawn
  abbrev Plain : St.Station → Type 0
  Plain x = AllOf k x.queue.messages × (x.withdrawn ≡ 0)

  abbrev Inv : State → Type 0
  Inv c = Fit p rg io six c × Plain (shown c)

  abbrev After : State → C.Move → Type 0
  After c m = AllOf k (C.queue_after m (shown c)).messages × (C.withdrawn_after m (shown c) ≡ 0)

  long-plain : (c : State) (r : B.LongAck) (v : Option AckInfo) → Plain (shown c) → After c (long_call_of p rg io six c.0.sender r v)
  long-plain c r None h = h
  long-plain c r (Some i) h = h

  reply-plain : (c : State) (r : Reply) (b : List ℕ) → Plain (shown c) → After c (call_of p rg io six c.0.sender r b)
  reply-plain c (ConnAck r) b h = h
  reply-plain c (Ack r) b h = h
  reply-plain c (LongAck r) b h = long-plain c r (ack_of b) h
  reply-plain c (Turn r) b h = h

  queue-plain : (c : State) (bs : List ℕ) → Plain (shown c) → After c (C.queue_move k 0 bs)
  queue-plain c bs h = (
    enqueue-all k bs (shown c).queue h.0,
    omega (arith, h.1, ap (λ (ms : List Message). length (message_bytes ms)) (superseded-nothing bs (shown c).queue)),
  )

  plain-after : (i : Call) (c : State) → OneClass k i c → Plain (shown c) → After c (call p rg io six i c)
  plain-after (queues j l bs) c o h =
      by (After c) (passed (queue_verdict p c.0 c.1 j l (length bs)))
      (λ _.
      subst (λ (x : ℕ). After c (C.queue_move x l bs)) (sym o.0)
      (subst (λ (y : ℕ). After c (C.queue_move k y bs)) (sym o.1) (queue-plain c bs h)))
      (λ _. h)
  plain-after (hears h r b) c o a =
      by (After c) (passed (receive_verdict p c.0 c.1 h r (length b))) (λ _. reply-plain c r b a) (λ _. a)
  plain-after (receives h r b) c o a = by (After c) (passed (frames_verdict p c.0 c.1 h r.n)) (λ _. a) (λ _. a)
  plain-after (bursts out) c o h =
      by (After c) (passed (burst_verdict p c.0 c.1 (length out))) (λ _. (flies-all k _ (shown c).queue h.0, h.1)) (λ _. h)

  keeps-class : (i : Call) (c : State) → Given i c → OneClass k i c → Inv c → Inv (next p i c)
  keeps-class i c g o v =
      let d = does p rg io six i c g v.0.0 v.0.1 in
      ((d.keeps, quiet_next p i c v.0.1), subst Plain (sym d.steps) (plain-after i c o v.1))

  fit-listed : (c : State) → Inv c → Listed c
  unfolding view_station
  fit-listed c v = (sound-ok _ _ v.0.0.listed, v.1.1)

  same-through : (i : Call) (c : State) → Given i c → OneClass k i c → Inv c → (ok : Listed c) → too_many p i c ≡ false → Same p c i
  same-through (queues j l bs) c g o v ok t =
      let w = v.0.0 in
      let counted = sound-counted p c.0.sender c.1 w.well.sound in
      plain-same p c k j l bs o
      (queue-does p c ok k low bs
      (λ _. queued-last p c ok k low bs v.1.0 counted w.well.bytes w.well.arrays w.listed bs refl) (plain-few p c k j l bs o t))
  same-through (hears h r b) c g o v ok t = reply-same p c ok h r b
  same-through (receives h r b) c g o v ok t = frames-same p c ok h r b
  same-through (bursts out) c g o v ok t = burst-same p c ok out

  through : (n : ℕ) → area_bytes ≤ n → (is : List Call) → Along (next p) Given is (fresh_start n) → Along (next p) (OneClass k) is (fresh_start n) → Ends p is (fresh_start n)
  through n large is gs os =
      lists p k Inv keeps-class (λ i c g o v t. ap core (many-stays p i c t))
      (λ i c g o v t. same-through i c g o v (fit-listed c v) t) is (fresh_start n) gs os
      (fresh-fit p rg io six n large, subst Plain (sym (fresh-shows (replicate n 0))) (tt, refl))

-- ---- every call is refused

module _ (p : Profile) (n : ℕ) (no : (in_range p && in_order p) ≡ true → area_bytes ≤ n → ⊥) (k : ℕ) (low : k ≤ max_class) where
  fresh-listed : Listed (fresh_start n)
  fresh-listed = (sound-ok _ _ sound_none, refl)

  never : (bs : List ℕ) → passed (queue_verdict p fresh_station (replicate n 0) k 0 (length bs)) ≡ true → ⊥
  never bs e =
      let q = queue-passed p fresh_station (replicate n 0) k 0 (length bs) e in
      no (and_yes (in_range p) (in_order p) q.one q.two) (omega (arith, (queue-room p fresh_station (replicate n 0) k 0 (length bs) e).1, length-replicate {A = ℕ} n 0))

  same-refused : (i : Call) → OneClass k i (fresh_start n) → too_many p i (fresh_start n) ≡ false → Same p (fresh_start n) i
  same-refused (queues j l bs) o t =
      plain-same p (fresh_start n) k j l bs o
      (queue-does p (fresh_start n) fresh-listed k low bs (λ e. absurd (never bs e)) (plain-few p (fresh_start n) k j l bs o t))
  same-refused (hears h r b) o t = reply-same p (fresh_start n) fresh-listed h r b
  same-refused (receives h r b) o t = frames-same p (fresh_start n) fresh-listed h r b
  same-refused (bursts out) o t = burst-same p (fresh_start n) fresh-listed out

  refused : (is : List Call) → Along (next p) Given is (fresh_start n) → Along (next p) (OneClass k) is (fresh_start n) → Ends p is (fresh_start n)
  refused is gs os =
      let st = stays p n (refused-by p n no) in
      lists p k (λ (c : State). c ≡ fresh_start n) (λ i c g o e. ap (next p i) e ∙ (st i).0) (λ i c g o e t. ap core (many-stays p i c t))
      (λ i c g o e t. at-fresh i c e o t) is (fresh_start n) gs os refl
    where
      at-fresh : (i : Call) (c : State) → c ≡ fresh_start n → OneClass k i c → too_many p i c ≡ false → Same p c i
      at-fresh i c e =
          subst (λ (x : State). OneClass k i x → too_many p i x ≡ false → Same p x i) (sym e) (same-refused i)

pub single-class : SingleClass
single-class p six k low n is gs os =
    test (in_range p && in_order p)
    (λ v. test (leb area_bytes n)
    (λ l. through p (ranged p (and_first (in_range p) (in_order p) v)) (and_second (in_range p) (in_order p) v) six k low n (leb-true area_bytes n l) is gs os)
    (λ l. refused p n (λ x y. omega (arith, leb-false area_bytes n l, y)) k low is gs os))
    (λ v. refused p n (λ x y. false≢true (sym v ∙ x)) k low is gs os)
