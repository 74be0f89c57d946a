-- Each hold ends by the latest end after the last judged reply, along every list of calls.
-- How it goes: five things are carried from call to call (`Carried`). The record is sound. It agrees with the tally, so that a reply is
-- judged by the tally where the sender judges it (`judges-ack`, `judges-turn`). A burst that is not awaited has no frame (`Idle`), which
-- a turn needs. Every end is by the latest one of the last judged reply, and that reply was no later than the last accepted time, so that
-- an older end is by the latest one of any later reply (`Bounded`). A judged reply sets one of gear_laws' two ends at most (`ack-each`);
-- all other calls leave the holds.
-- Assumes nothing.
use mathlib.Core.Path.{◌≡◌, refl, sym, ap, ◌∙◌, subst}
use mathlib.Core.Logic.{inl, inr, ⊎_elim}
use mathlib.Core.Option.{Option, none, some}
use mathlib.Core.List.{List, [], ◌∷◌}
use mathlib.Core.Bool.{Bool, true, false, cond, not, false≢true}
use Prim.Native.Nat.{ℕ, suc, ◌≤◌, ◌<◌}
use native.Mathlib.Omega.{arith}
use lib.Dec.{T, eqb}
use borrow.Author.Tests.{ne_eqb}
use lib.Ieee.{Float, binary64, add, le}
use lib.Ieee.Bits.{is_true}
use lib.ListN.{length}
use Rattle.std.proofs.Common as Std
use Rattle.std.proofs.Common.{Some, None}
use Rattle.laws.specs.Bytes.{Bytes}
use Rattle.laws.proofs.Picks.{test, by, by₂, either, and_second}
use Rattle.ieee.specs.Range.{w64, inside}
use Rattle.ieee.proofs.Tests.{yes}
use Rattle.ieee.proofs.Value.{le_trans, le_refl, le-no-nan}
use Rattle.report.specs.Ack.{info_of, ack_of}
use Rattle.report.specs.declared.ack.AckInfo.{AckInfo}
use Rattle.config.specs.declared.Profile.{Profile}
use Rattle.config.specs.Ranged.{Ranged}
use Rattle.config.specs.Ranges.{in_range, in_order}
use Rattle.gear.specs.declared.Gear.{Gear}
use Rattle.gear.specs.declared.Outcome.{Outcome}
use Rattle.gear.specs.Judging.{fail_hold, on_ack}
use Rattle.gear.specs.OtherReplies as M
use Rattle.gear.specs.OtherReplies.{connected, on_turn}
use Rattle.gear_laws.specs.Sound.{TimeInRange}
use Rattle.gear_laws.proofs.HoldLaws.{Each, ack-each, longest-later, fail-ends, loss-ends}
use Rattle.ledger.specs.Calls.{Along, run}
use Rattle.ledger.specs.CallsCode as C
use Rattle.ledger.specs.Ledger as L
use Rattle.ledger.specs.Ledger.{Sent, settle_burst, clear_burst, hear_ack, data_burst, requeue, settles}
use Rattle.ledger.specs.LedgerCode.{frames}
use Rattle.ledger.specs.Queue.{Queue}
use Rattle.ledger.specs.Sizes.{Sizes}
use Rattle.ledger.specs.Sound.{Sound}
use Rattle.ledger.specs.Reply as R
use Rattle.ledger.specs.Reply.{short_ack, long_ack}
use Rattle.ledger.specs.Tally.{Tally, Event, reply, replies, turn, Outstanding, nothing, outstanding, heard, feed}
use Rattle.ledger.proofs.Agree.{Agree}
use Rattle.ledger.proofs.Kept.{step-agree, step-queue}
use Rattle.record.specs.Profiles.{sizes_of}
use Rattle.record.specs.View.{view, store, store_link}
use Rattle.record.specs.declared.Sender.{Sender}
use Rattle.queuing.specs.Station.{with_sender, view_station, store_station, queued_in}
use Rattle.queuing.specs.declared.Station.{Station}
use Rattle.settle.specs.AckIn.{ack_in}
use Rattle.settle.specs.Outcomes.{outcome_of}
use Rattle.replies.specs.Replies.{short_acked, long_acked, turned, connected_to, nothing_heard, turn_db}
use Rattle.replies.specs.declared.Heard.{Heard}
use Rattle.replies.specs.declared.Ack as A
use Rattle.replies.specs.declared.LongAck as B
use Rattle.replies.specs.declared.Turn as D
use Rattle.replies.specs.declared.ConnAck as E
use Rattle.receive.specs.Accepted.{long_read, accepted_reply}
use Rattle.outgoing.specs.Outgoing.{burst_of}
use Rattle.refusals.specs.declared.Reply.{Reply}
use Rattle.refusals.specs.declared.Reply.TheVariants.{ConnAck, Ack, LongAck, Turn}
use Rattle.refusals.specs.Refusals.{time_ok, heard_ok}
use Rattle.verdicts.specs.Verdicts.{passed, queue_verdict, receive_verdict, frames_verdict, burst_verdict}
use Rattle.verdicts.proofs.Passed.{reply-passed, frames-passed}
use Rattle.demand.specs.Lists.{Call, queues, hears, receives, bursts, State, Given, shown, long_event, reply_event, replies_in, next, call_told}
use Rattle.demand.specs.AsSingles.{singles_of}
use Rattle.reception.specs.Reception.{Decoded, decoded_in, is_ack_read, flags_of}
use Rattle.reception.specs.declared.Reception.{Reception}
use Rattle.demand.proofs.Answers.{queue-yes, queue-no, hear-yes, hear-no, hear-told, frames-no, frames-told, burst-yes, burst-no}
use Rattle.demand.proofs.Connected.{quiet_next}
use Rattle.demand.proofs.Values.{time-in}
use Rattle.demand.proofs.Steps.{Ok, sizes}
use Rattle.demand.proofs.AllCalls.{typed, call, does}
use Rattle.demand.proofs.AsSingles.{single, EachBytes, each-bytes, Takes, after-takes, next-is, told_is, finds, as-singles}
use Rattle.demand.proofs.Reached.{Fit}
use Rattle.far_station.specs.CannotForce.{judges, judged_by, last_judged, latest, EndsBy}

-- ---- a burst that is not awaited has no frame

abbrev pub Idle : L.Sender → Type 0
Idle s = s.awaited ≡ false → s.sent ≡ []

idle-ack : (z : Sizes) (r : R.Reply) (keep : Bool) (s : L.Sender) → Idle s → Idle (hear_ack z.top r keep s)
unfolding hear_ack clear_burst settle_burst
idle-ack z r keep s i = by Idle s.awaited (λ w. either Idle (settles r s) _ _ (λ e. refl) (λ e. refl)) (λ w. i)

idle-all : (z : Sizes) (xs : List (R.Reply × Bool)) (s : L.Sender) → Idle s → Idle (C.hear_all z.top xs s)
idle-all z [] s i = i
idle-all z (x ∷ xs) s i = idle-all z xs (hear_ack z.top x.0 x.1 s) (idle-ack z x.0 x.1 s i)

idle-step : (z : Sizes) (k : C.Move) (q : Queue) (s : L.Sender) → Idle s → Idle (C.sender_after z k q s)
unfolding requeue clear_burst data_burst
idle-step z C.idle q s i = i
idle-step z (C.queue_move c l bs) q s i = i
idle-step z (C.ack_move r keep) q s i = idle-ack z r keep s i
idle-step z (C.acks_move xs) q s i = idle-all z xs s i
idle-step z C.turn_move q s i = λ e. refl
idle-step z (C.burst_move g) q s i = λ e. absurd (false≢true (sym e))

-- ---- whether a reply is judged: by the tally where it is by the sender

judges-ack : (r : R.Reply) (s : L.Sender) (t : Tally) → Agree s t → judges (reply r) t.out ≡ s.awaited
judges-ack r s t ag = ap (judges (reply r)) ag.out ∙ go s.awaited
  where
    go : (b : Bool) → judges (reply r) (cond b (outstanding s.number (frames s.pieces s.sent)) nothing) ≡ b
    go true = refl
    go false = refl

judges-turn : (s : L.Sender) (t : Tally) → Idle s → Agree s t → judges turn t.out ≡ not (eqb (length s.sent) 0)
judges-turn s t i ag = ap (judges turn) ag.out ∙ go s.awaited s.sent i
  where
    go : (b : Bool) (fs : List Sent) → (b ≡ false → fs ≡ [])
        → judges turn (cond b (outstanding s.number (frames s.pieces fs)) nothing) ≡ not (eqb (length fs) 0)
    go true [] e = refl
    go true (f ∷ fs) e = sym (ap not (ne_eqb (suc (length fs)) 0 (λ q. omega (arith, q))))
    go false fs e = rw (e refl) refl

-- ---- from call to call

module _ (p : Profile) (rg : Ranged p) (io : in_order p ≡ true) (six : length p.codes.ends ≤ 6) where
  -- the last judged reply was no later than the last accepted time
  abbrev Since : Option Float → Float → Type 0
  Since none last = Unit {0}
  Since (some t) last = TimeInRange t × T (le t last)

  abbrev pub Bounded : Option Float → Sender → Type 0
  Bounded j s = Each (EndsBy p j) s.gear × Since j s.link.last_time

  since-later : (j : Option Float) (last now : Float) → T (le last now) → Since j last → Since j now
  since-later none last now h s = tt
  since-later (some t) last now h s = (s.0, le_trans t last now s.1 h)

  -- an end by an earlier reply's latest is by a later one's
  ends-later : (j : Option Float) (last now x : Float) → T (le last now) → TimeInRange now → Since j last
      → EndsBy p j x → EndsBy p (some now) x
  ends-later none last now x h n s e = inl e
  ends-later (some t) last now x h n s e =
      let up = longest-later p rg t now s.0 n (le_trans t last now s.1 h) in
      ⊎_elim (λ d. inl d) (λ d. inr (is_true _ (le_trans x (latest p t) (latest p now) (yes d) up))) e

  -- the two ends that a reply may set
  fail-by : (now : Float) → TimeInRange now → (g : Gear) (at : ℕ) (channel : Bool)
      → EndsBy p (some now) (add binary64 now (fail_hold p g at channel now))
  fail-by now i g at channel = inr (is_true _ (fail-ends p rg now i g at channel))

  loss-by : (now : Float) → TimeInRange now → EndsBy p (some now) (add binary64 now p.hold_times.loss_hold_s)
  loss-by now i = inr (is_true _ (loss-ends p rg now i))

  module _ (h : Heard) (c : State) (w : Ok p rg io six c) (t : Tally) (ag : Agree (shown c).sender t) (idle : Idle (shown c).sender)
      (j : Option Float) (bd : Bounded j c.0.sender) (late : T (le c.0.sender.link.last_time h.time))
      (now : TimeInRange h.time) where
    abbrev s : Sender
    s = c.0.sender

    abbrev a : List ℕ
    a = c.1

    abbrev x : Option Float
    x = some h.time

    older : Each (EndsBy p x) s.gear
    older k i = ends-later j s.link.last_time h.time _ late now bd.1 (bd.0 k i)

    level : s.gear.level < 17
    level = w.well.sound.gear.level

    stays : Since j h.time
    stays = since-later j s.link.last_time h.time late bd.1

    same-time : Since x h.time
    same-time = (now, le_refl h.time (le-no-nan _ h.time now.low).1)

    judged-each : (g : Gear) (o : Outcome) (snr : Float) → g.level < 17 → Each (EndsBy p x) g
        → Each (EndsBy p x) (on_ack p g o snr h.time)
    judged-each = ack-each (EndsBy p x) p h.time (fail-by h.time now) (loss-by h.time now)

    short-bounded : (r : A.Ack) → Bounded (cond s.link.awaiting x j) (short_acked p h r s a).0
    unfolding short_acked ack_in store store_link
    short-bounded r =
        by₂ (λ (i : Option Float) (y : Sender × List ℕ). Bounded i y.0) s.link.awaiting
        (λ e. (judged-each _ _ _ level older, same-time))
        (λ e. (bd.0, stays))

    long-bounded : (r : B.LongAck) (i : AckInfo) → Bounded (cond s.link.awaiting x j) (long_acked p h r i s a).0
    unfolding long_acked ack_in store store_link
    long-bounded r i =
        by₂ (λ (i : Option Float) (y : Sender × List ℕ). Bounded i y.0) s.link.awaiting
        (λ e. (judged-each _ _ _ level older, same-time))
        (λ e. (bd.0, stays))

    connect-bounded : (r : E.ConnAck) → Bounded j (connected_to p h r s)
    unfolding connected_to connected
    connect-bounded r = (bd.0, stays)

    turn-bounded : (r : D.Turn) → Bounded (cond (not (eqb (length (view s a).sent) 0)) x j) (turned p h r s a).0
    unfolding turned store store_link outcome_of on_turn M.at_turn
    turn-bounded r =
        test (eqb (length (view s a).sent) 0)
        (λ e. rw e (bd.0, stays))
        (λ e. rw e (
          ack-each (EndsBy p x) p h.time (fail-by h.time now) (loss-by h.time now)
              s.gear (M.unmatched_outcome (outcome_of (nothing_heard (view s a)) (view s a))) (turn_db h r) level older,
          same-time,
        ))

    -- a reply that is accepted, as it is told
    abbrev After : Event → Sender × List ℕ → Type 0
    After e d = Bounded (cond (judges e t.out) x j) d.0

    ack-told : (r : R.Reply) → judges (reply r) t.out ≡ s.link.awaiting
    unfolding view view_station
    ack-told r = judges-ack r (shown c).sender t ag

    turn-told : judges turn t.out ≡ not (eqb (length (view s a).sent) 0)
    unfolding view_station
    turn-told = judges-turn (shown c).sender t idle ag

    after-told : (b b' : Bool) (y : Sender) → b ≡ b' → Bounded (cond b' x j) y → Bounded (cond b x j) y
    after-told b b' y e k = subst (λ (v : Bool). Bounded (cond v x j) y) (sym e) k

    long_after : (r : B.LongAck) (i : Std.Option AckInfo) → After (long_event i) (long_read p h r i s a)
    long_after r None = bd
    long_after r (Some i) = after-told _ _ (long_acked p h r i s a).0 (ack-told (long_ack i.burst i.bitmap)) (long-bounded r i)

    reply-after : (r : Reply) (b : List ℕ) → After (reply_event r b) (accepted_reply p h r b s a)
    reply-after (ConnAck r) b = connect-bounded r
    reply-after (Ack r) b = after-told _ _ (short_acked p h r s a).0 (ack-told (short_ack r.burst r.bitmap)) (short-bounded r)
    reply-after (LongAck r) b = long_after r (ack_of b)
    reply-after (Turn r) b = after-told _ _ (turned p h r s a).0 turn-told (turn-bounded r)

  -- queuings and bursts leave gear and time
  abbrev Same : Sender → Sender → Type 0
  Same s d = (d.gear ≡ s.gear) × (d.link.last_time ≡ s.link.last_time)

  same-bounded : (j : Option Float) (s d : Sender) → Same s d → Bounded j s → Bounded j d
  same-bounded j s d e b = (subst (Each (EndsBy p j)) (sym e.0) b.0, subst (Since j) (sym e.1) b.1)

  queued-same : (k l : ℕ) (bs : List ℕ) (u : Station) (a : List ℕ) → Same u.sender (queued_in k l bs u a).0.sender
  unfolding queued_in store_station store store_link
  queued-same k l [] u a = (refl, refl)
  queued-same k l (b ∷ bs) u a = (refl, refl)

  queue-same : (k l : ℕ) (bs : List ℕ) (c : State) → Same c.0.sender (next p (queues k l bs) c).0.sender
  queue-same k l bs c =
      test (passed (queue_verdict p c.0 c.1 k l (length bs)))
      (λ e. subst (λ (d : State). Same c.0.sender d.0.sender) (sym (queue-yes p c k l bs e)) (queued-same k l bs c.0 c.1))
      (λ e. subst (λ (d : State). Same c.0.sender d.0.sender) (sym (queue-no p c k l bs e)) (refl, refl))

  sent-same : (s : Sender) (a out : List ℕ) → Same s (burst_of p s a out).0.1
  unfolding burst_of store store_link
  sent-same s a out = (refl, refl)

  burst-same : (out : List ℕ) (c : State) → Same c.0.sender (next p (bursts out) c).0.sender
  burst-same out c =
      test (passed (burst_verdict p c.0 c.1 (length out)))
      (λ e. subst (λ (d : State). Same c.0.sender d.0.sender) (sym (burst-yes p c out e)) (sent-same c.0.sender c.1 out))
      (λ e. subst (λ (d : State). Same c.0.sender d.0.sender) (sym (burst-no p c out e)) (refl, refl))

  is-late : (last t : Float) → time_ok last t ≡ true → T (le last t)
  unfolding time_ok
  is-late last t e = yes {b = le last t} (and_second (inside (w64 0) (w64 1000000000) t) (le last t) e)

  -- ---- what is carried

  pub record Carried (c : State) (t : Tally) (j : Option Float) : Type 0 where
    pub fit : Fit p rg io six c
    pub queue : t.queue ≡ (shown c).queue
    pub agree : Agree (shown c).sender t
    pub idle : Idle (shown c).sender
    pub bounded : Bounded j c.0.sender

  hear-bounded : (h : Heard) (r : Reply) (b : List ℕ) (c : State) (t : Tally) (j : Option Float) → Carried c t j
      → Bounded (judged_by (hears h r b) (call_told p (hears h r b) c) t.out j) (next p (hears h r b) c).0.sender
  hear-bounded h r b c t j k =
      let After : Event → State → Type 0 = λ e d. Bounded (cond (judges e t.out) (some h.time) j) d.0.sender in
      test (passed (receive_verdict p c.0 c.1 h r (length b)))
      (λ e.
      let v = (reply-passed p c.0 c.1 h r (length b) e).0 in
      let x = accepted_reply p h r b c.0.sender c.1 in
      subst (After (call_told p (hears h r b) c)) (sym (hear-yes p c h r b e))
      (subst (λ (y : Event). After y (with_sender c.0 x.0, x.1)) (sym (hear-told p c h r b true e))
      (reply-after h c k.fit.0 t k.agree k.idle j k.bounded (is-late _ h.time v) (time-in _ h.time v) r b)))
      (λ e.
      subst (After (call_told p (hears h r b) c)) (sym (hear-no p c h r b e))
      (subst (λ (y : Event). After y c) (sym (hear-told p c h r b false e)) k.bounded))

  shown-sound : (c : State) → Ok p rg io six c → Sound (sizes_of p) (shown c).sender
  unfolding view_station
  shown-sound c w = w.well.sound.ledger

  -- what is carried over a call, where its bound is
  carried_step : (i : Call) (c : State) (t : Tally) (j : Option Float) → Given i c → Carried c t j
      → Bounded (judged_by i (call_told p i c) t.out j) (next p i c).0.sender
      → Carried (next p i c) (feed (call_told p i c) t) (judged_by i (call_told p i c) t.out j)
  carried_step i c t j g b bound =
      let d = does p rg io six i c g b.fit.0 b.fit.1 in
      let k = call p rg io six i c in
      let z = sizes_of p in
      let so = shown-sound c b.fit.0 in
      record {
        fit = (d.keeps, quiet_next p i c b.fit.1);
        queue = rw (d.steps, d.tells) (step-queue z (sizes p rg io six) k (shown c) t d.allowed so b.queue b.agree);
        agree = rw (d.steps, d.tells) (step-agree z (sizes p rg io six) k (shown c) t d.allowed so b.queue b.agree);
        idle = rw d.steps (idle-step (sizes_of p) k (C.queue_after k (shown c)) (shown c).sender b.idle);
        bounded = bound;
      }

  -- ---- a reception, by its single calls

  -- where none is outstanding none is judged
  none-judged : (rs : List R.Reply) → judges (replies rs) nothing ≡ false
  none-judged [] = refl
  none-judged (r ∷ rs) = refl

  first-judged : (r : R.Reply) (rs : List R.Reply) (out : Outstanding) → judges (replies (r ∷ rs)) out ≡ judges (reply r) out
  first-judged r rs nothing = refl
  first-judged r rs (outstanding n fs) = refl

  heard-none : (r : R.Reply) (t : Tally) → (feed (reply r) t).out ≡ nothing
  unfolding heard
  heard-none r t = refl

  module _ (h : Heard) where
    singles-carried : (fs : List Decoded) (c : State) (t : Tally) (j : Option Float) → EachBytes fs → Carried c t j
        → Bounded (last_judged p (singles_of h fs) c t j) (run (next p) (singles_of h fs) c).0.sender
    singles-carried [] c t j b k = k.bounded
    singles-carried (f ∷ fs) c t j b k =
        by (λ (is : List Call). Bounded (last_judged p is c t j) (run (next p) is c).0.sender) (is_ack_read f)
        (λ e.
        let i = single h f in
        let bound = hear-bounded h (LongAck (flags_of f.flags)) f.payload c t j k in
        singles-carried fs (next p i c) (feed (call_told p i c) t) (judged_by i (call_told p i c) t.out j) b.1 (carried_step i c t j b.0 k bound))
        (λ e. singles-carried fs c t j b.1 k)

    module _ (ir : in_range p ≡ true) (ok : heard_ok h ≡ true) where
      singles-judged : (fs : List Decoded) (c : State) (t : Tally) (j : Option Float) → EachBytes fs → Takes p rg ir io h ok c
          → last_judged p (singles_of h fs) c t j ≡ cond (judges (replies (replies_in fs)) t.out) (some h.time) j
      singles-judged [] c t j b k = refl
      singles-judged (f ∷ fs) c t j b k =
          by₂ (λ (is : List Call) (rs : List R.Reply). last_judged p is c t j ≡ cond (judges (replies rs) t.out) (some h.time) j) (is_ack_read f)
          (λ e.
          let i = single h f in
          let r = long_ack (info_of f.payload).burst (info_of f.payload).bitmap in
          let k' = subst (Takes p rg ir io h ok) (sym (next-is p rg ir io h ok f c k e)) (after-takes p rg ir io h ok f c e b.0 k) in
          let j' = judged_by i (call_told p i c) t.out j in
          let ev = told_is p rg ir io h ok f c k e in
          let none : judges (replies (replies_in fs)) (feed (call_told p i c) t).out ≡ false =
          ap (λ (x : Event). judges (replies (replies_in fs)) (feed x t).out) ev ∙ ap (judges (replies (replies_in fs))) (heard-none r t) ∙ none-judged (replies_in fs) in
          singles-judged fs (next p i c) (feed (call_told p i c) t) j' b.1 k'
          ∙ ap (λ (x : Bool). cond x (some h.time) j') none
          ∙ ap (λ (x : Event). cond (judges x t.out) (some h.time) j) ev
          ∙ sym (ap (λ (x : Bool). cond x (some h.time) j) (first-judged r (replies_in fs) t.out)))
          (λ e. singles-judged fs c t j b.1 k)

  frames-bounded : (h : Heard) (r : Reception) (b : List ℕ) (c : State) (t : Tally) (j : Option Float) → Bytes b → Carried c t j
      → Bounded (judged_by (receives h r b) (call_told p (receives h r b) c) t.out j) (next p (receives h r b) c).0.sender
  frames-bounded h r b c t j by8 k =
      let After : Event → State → Type 0 = λ e d. Bounded (cond (judges e t.out) (some h.time) j) d.0.sender in
      let fs = decoded_in r b in
      test (passed (frames_verdict p c.0 c.1 h r.n))
      (λ e.
      let q = frames-passed p c.0 c.1 h r.n e in
      let ty = typed p rg io six c k.fit.0 in
      let bs = each-bytes r b by8 in
      let takes = finds p rg io h c r.n ty q in
      subst (After (call_told p (receives h r b) c)) (sym (as-singles p c h r b q.few ty by8).state)
      (subst (λ (y : Event). After y (run (next p) (singles_of h fs) c)) (sym (frames-told p c h r b true e))
      (subst (λ (x : Option Float). Bounded x (run (next p) (singles_of h fs) c).0.sender)
      (singles-judged h q.stands.0 q.heard fs c t j bs takes) (singles-carried h fs c t j bs k))))
      (λ e.
      subst (After (call_told p (receives h r b) c)) (sym (frames-no p c h r b e))
      (subst (λ (y : Event). After y c) (sym (frames-told p c h r b false e)) k.bounded))

  call-bounded : (i : Call) (c : State) (t : Tally) (j : Option Float) → Given i c → Carried c t j
      → Bounded (judged_by i (call_told p i c) t.out j) (next p i c).0.sender
  call-bounded (queues k l bs) c t j g b =
      same-bounded j c.0.sender (next p (queues k l bs) c).0.sender (queue-same k l bs c) b.bounded
  call-bounded (bursts out) c t j g b = same-bounded j c.0.sender (next p (bursts out) c).0.sender (burst-same out c) b.bounded
  call-bounded (hears h r pl) c t j g b = hear-bounded h r pl c t j b
  call-bounded (receives h r pl) c t j g b = frames-bounded h r pl c t j g b

  carried-next : (i : Call) (c : State) (t : Tally) (j : Option Float) → Given i c → Carried c t j
      → Carried (next p i c) (feed (call_told p i c) t) (judged_by i (call_told p i c) t.out j)
  carried-next i c t j g b = carried_step i c t j g b (call-bounded i c t j g b)

  pub all-bounded : (is : List Call) (c : State) (t : Tally) (j : Option Float) → Along (next p) Given is c → Carried c t j
      → Each (EndsBy p (last_judged p is c t j)) (run (next p) is c).0.sender.gear
  all-bounded [] c t j gs b = b.bounded.0
  all-bounded (i ∷ is) c t j gs b =
      all-bounded is (next p i c) (feed (call_told p i c) t) (judged_by i (call_told p i c) t.out j) gs.1 (carried-next i c t j gs.0 b)
