-- What a call that is accepted found.
-- Assumes nothing.
use mathlib.Core.Path.{◌≡◌, refl, sym, ap, ◌∙◌}
use mathlib.Core.List.{List}
use mathlib.Core.Bool.{Bool, true, false, cond, not, ◌&&◌, ◌||◌, false≢true}
use Prim.Native.Nat.{ℕ, ◌+◌, ◌-◌, ◌*◌, ◌≤◌, ◌<◌}
use native.Mathlib.Omega.{arith}
use lib.Dec.{leb, ltb, eqb}
use lib.ListN.{length}
use borrow.Author.Tests.{not-false, eq-eqb, eqb-true, ne_eqb, leb-true, le-leb, leb-false, ltb-true, ltb-false}
use Rattle.laws.proofs.Picks.{test, cond_no, and_first, and_second}
use Rattle.laws.proofs.Tests.{all-at}
use Rattle.config.specs.declared.Profile.{Profile}
use Rattle.config.specs.Ranges.{in_range, in_order}
use Rattle.area.specs.Layout.{area_bytes, stream_bytes}
use Rattle.area.specs.Table.{rows_from, total}
use Rattle.pieces.proofs.Sound.{table-total}
use Rattle.area.specs.Room.{queue_refusal}
use Rattle.area.proofs.room.Laws.{full, over, room-enough, not-refused, stream-holds}
use Rattle.record.specs.declared.Sender.{Sender}
use Rattle.soundness.specs.Soundness.{counts_ok, sound_ok}
use Rattle.soundness.proofs.fields.Counts.{waiting_few, flying-few, pieces-within}
use Rattle.messages.specs.Messages as M
use Rattle.messages.specs.Messages.{Entry, messages_ok, withdrawn_in}
use Rattle.queuing.specs.declared.Station.{Station}
use Rattle.replies.specs.declared.Heard.{Heard}
use Rattle.std.specs.Prelude.{Result, Ok, Err, IsErrAnd, is_err, ⊤}
use Rattle.refusals.specs.declared.Refusal.{Refusal}
use Rattle.refusals.specs.declared.Refusal.TheVariants as E
use Rattle.refusals.specs.Verdict.{Verdict}
use Rattle.refusals.specs.Verdict.{Accepted, AllTaken, BadClass, BadTime, BadValue, ProfileOutOfRange, QueueFull, ShortOutput, ShortOverLong, TooManyFrames, TooManyMessages, Unsound}
use Rattle.refusals.specs.declared.Reply.{Reply}
use Rattle.refusals.specs.Refusals.{refusal_number, number_of, kind_of, max_received, time_ok, heard_ok, reply_ok}
use Rattle.verdicts.specs.Verdicts.{taken_by, station_ok, passed, first_of, standing, room_verdict, reply_verdict, hearing_verdict, frames_standing, output_verdict, queue_verdict, receive_verdict, frames_verdict, burst_verdict}
use Rattle.limits.specs.Limits.{max_slots, max_waiting, max_taken, max_pieces, max_class, max_messages}

-- what a call answers says whether it is refused
pub is-passed : (v u : Verdict) (x : ⊤) → v ≡ u → v ≡ Ok x → passed u ≡ true
is-passed v u x e d = ap (λ (w : Verdict). passed w) (sym e ∙ d)

-- no refusal has the number 0
positive : (r : Refusal) → ltb 0 (refusal_number r) ≡ true
positive E.ProfileOutOfRange = refl
positive E.ShortOverLong = refl
positive E.Unsound = refl
positive E.OutOfTurn = refl
positive E.BadTime = refl
positive E.BadValue = refl
positive E.ShortPayload = refl
positive E.QueueFull = refl
positive E.AllTaken = refl
positive E.ShortOutput = refl
positive E.BadClass = refl
positive E.TooManyMessages = refl
positive E.TooManyFrames = refl

pub numbered : (r : Refusal) → eqb (refusal_number r) 0 ≡ false
numbered r = ne_eqb _ _ (λ z. omega (arith, z, ltb-true 0 (refusal_number r) (positive r)))

pub not-passed : (v u : Verdict) (r : Refusal) → v ≡ u → v ≡ Err r → passed u ≡ false
not-passed v u r e d = ap (λ (w : Verdict). passed w) (sym e ∙ d) ∙ numbered r

passed-unless : (v : Verdict) → passed v ≡ not (is_err v)
passed-unless (Ok x) = refl
passed-unless (Err r) = numbered r

pub asked-passed : (v u : Verdict) (b k : Bool) → v ≡ u → b ≡ is_err v → b ≡ k → passed u ≡ not k
asked-passed v u b k e d h = ap (λ (w : Verdict). passed w) (sym e) ∙ passed-unless v ∙ ap not (sym d ∙ h)

-- 1 to 3
pub early : (v : Verdict) (r : Refusal) → v ≡ Err r → (ltb 0 (number_of v) && leb (number_of v) 3) ≡ leb (refusal_number r) 3
early v r e = ap (λ (w : Verdict). ltb 0 (number_of w) && leb (number_of w) 3) e ∙ ap (λ (b : Bool). b && leb (refusal_number r) 3) (positive r)

-- what a `?` hands on
pub from-err : {T E : Type 0} (r : Result T E) (e : E) → IsErrAnd r (λ x. x ≡ e) → r ≡ Err e
from-err (Ok x) e h = absurd h
from-err (Err x) e h = ap (λ y. Err y) h

-- a test that would have turned the call down
over_first : (b : Bool) (v w : Verdict) → passed v ≡ false → passed (cond b v w) ≡ true → (b ≡ false) × (passed w ≡ true)
over_first true v w e h = absurd (false≢true (sym e ∙ h))
over_first false v w e h = (refl, h)

first_by : (b : Bool) (v w : Verdict) → passed v ≡ b → passed (cond b w v) ≡ true → (passed v ≡ true) × (passed w ≡ true)
first_by true v w e h = (e, h)
first_by false v w e h = absurd (false≢true (sym e ∙ h))

first-passed : (v w : Verdict) → passed (first_of v w) ≡ true → (passed v ≡ true) × (passed w ≡ true)
first-passed v w h = first_by (passed v) v w refl h

-- 15
few-passed : (v : Verdict) (n : ℕ) → passed (frames_standing v n) ≡ true → (ltb max_received n ≡ false) × (passed v ≡ true)
unfolding frames_standing
few-passed v n h =
    let low = ltb 0 (number_of v) && leb (number_of v) 3 in
    test low
    (λ e.
    let k : passed v ≡ true = rw e at h in
    absurd (omega (arith, eqb-true (number_of v) 0 k, ltb-true 0 (number_of v) (and_first (ltb 0 (number_of v)) _ e))))
    (λ e. over_first (ltb max_received n) TooManyFrames v refl (rw e at h))

-- connect comes first, and once
turn : (x connect : Bool) → x ≡ not connect → ((x && connect) || (not x && not connect)) ≡ false
turn true true e = absurd (false≢true (sym e))
turn true false e = refl
turn false true e = refl
turn false false e = absurd (false≢true e)

module _ (p : Profile) (s : Sender) (a : List ℕ) where
  counts-pass : sound_ok p s a ≡ true → counts_ok s ≡ true
  unfolding sound_ok
  counts-pass e = all-at _ 1 e

  -- what the lookup needs
  pub sound-rows : sound_ok p s a ≡ true → (s.counts.pieces ≤ max_pieces) × (area_bytes ≤ length a) × (total (rows_from a 0 s.counts.pieces) ≤ stream_bytes)
  unfolding sound_ok
  sound-rows e =
      let c = counts-pass e in
      let t : total (rows_from a 0 s.counts.pieces) ≡ s.counts.flying = table-total _ _ _ _ _ (all-at _ 2 e) in
      (pieces-within s c, leb-true area_bytes (length a) (all-at _ 0 e), omega (arith, t, flying-few s c))

module _ (p : Profile) (t : Station) (a : List ℕ) where
  abbrev s : Sender
  s = t.sender

  -- document 02's clauses about messages hold
  abbrev pub Listed : Type 0
  Listed = messages_ok s.counts.waiting t.messages ≡ true

  -- the bytes taken, those withdrawn among them, are within their limit
  abbrev pub Taken : Type 0
  Taken = taken_by s.counts t.messages ≤ max_taken

  -- 1, 2 and 3 do not turn a call down
  abbrev pub Stands : Type 0
  Stands = (in_range p ≡ true) × (in_order p ≡ true) × (sound_ok p s a ≡ true) × Listed × Taken

  -- nothing but 1 to 4 turns a call down here
  pub stands : (connect : Bool) → in_range p ≡ true → in_order p ≡ true → station_ok p t a ≡ true → s.link.connected ≡ not connect → standing p t a connect ≡ Accepted
  unfolding standing
  stands connect e₁ e₂ e₃ e₄ =
      sym (cond_no _ _ _ _ (ap not e₁) (cond_no _ _ _ _ (ap not e₂) (cond_no _ _ _ _ (ap not e₃) (cond_no _ _ _ _ (turn s.link.connected connect e₄) refl))))

  pub standing-three : (connect : Bool) → passed (standing p t a connect) ≡ true → Stands
  unfolding standing
  standing-three connect h =
      let h₁ = over_first (not (in_range p)) ProfileOutOfRange _ refl h in
      let h₂ = over_first (not (in_order p)) ShortOverLong _ refl h₁.1 in
      let h₃ = over_first (not (station_ok p t a)) Unsound _ refl h₂.1 in
      let k = not-false _ h₃.0 in
      let r = and_second (messages_ok s.counts.waiting t.messages) _ k in (
        not-false _ h₁.0,
        not-false _ h₂.0,
        and_first (sound_ok p s a) _ r,
        and_first (messages_ok s.counts.waiting t.messages) _ k,
        leb-true _ _ (and_second (sound_ok p s a) _ r),
      )

  -- nor do 11, 8, 9 and 12, 8 and 12 judged after the withdrawal
  module _ (k l n : ℕ) where
    -- what it withdraws
    abbrev gone : List Entry
    gone = withdrawn_in l n t.messages

    abbrev stay : ℕ
    stay = s.counts.waiting - M.total_left gone

    abbrev taken : ℕ
    taken = taken_by s.counts t.messages

    room-passed : passed (room_verdict s.counts t.messages k l n) ≡ true
        → (k ≤ max_class) × (queue_refusal stay taken n ≡ 0) × (1 ≤ n → t.messages.n - length gone < max_messages)
    unfolding room_verdict
    room-passed h =
        let left = t.messages.n - length gone in
        let h₀ = over_first (ltb max_class k) BadClass _ refl h in
        let h₁ = over_first (eqb (queue_refusal stay taken n) 8) QueueFull _ refl h₀.1 in
        let h₂ = over_first (eqb (queue_refusal stay taken n) 9) AllTaken _ refl h₁.1 in
        let h₃ = over_first (ltb 0 n && leb max_messages left) TooManyMessages Accepted refl h₂.1 in (
          ltb-false max_class k h₀.0,
          test (ltb max_waiting (stay + n))
              (λ x. absurd (false≢true (sym h₁.0 ∙ eq-eqb _ _ (full stay taken n (ltb-true _ _ x)))))
              (λ x. test (ltb max_taken (taken + n))
              (λ y. absurd (false≢true (sym h₂.0 ∙ eq-eqb _ _ (over stay taken n (ltb-false _ _ x) (ltb-true _ _ y)))))
              (λ y. room-enough stay taken n (ltb-false _ _ x) (ltb-false _ _ y))),
          λ o. leb-false max_messages left (sym (ap (λ (b : Bool). b && leb max_messages left) (le-leb 1 n o)) ∙ h₃.0),
        )

    pub record Queues : Type 0 where
      pub one : in_range p ≡ true
      pub two : in_order p ≡ true
      pub sound : sound_ok p s a ≡ true
      pub listed : Listed
      pub took : Taken
      pub class : k ≤ max_class
      pub room : queue_refusal stay taken n ≡ 0
      pub row : 1 ≤ n → t.messages.n - length gone < max_messages

    pub queue-passed : passed (queue_verdict p t a k l n) ≡ true → Queues
    unfolding queue_verdict
    queue-passed h =
        let q = first-passed (standing p t a false) (room_verdict s.counts t.messages k l n) h in
        let g = standing-three false q.0 in
        let r = room-passed q.1 in
        record { one = g.0; two = g.1; sound = g.2; listed = g.3; took = g.4; class = r.0; room = r.1; row = r.2 }

    -- where the bytes go there is room for them
    pub queue-room : passed (queue_verdict p t a k l n) ≡ true → (s.counts.flying + max_waiting ≤ stream_bytes) × (area_bytes ≤ length a) × (stay + n ≤ max_waiting)
        × (s.counts.waiting ≤ max_waiting)
    queue-room h =
        let q = queue-passed h in
        let c = counts-pass p s a q.sound in
        (omega (arith, flying-few s c, stream-holds), (sound-rows p s a q.sound).1, (not-refused stay taken n q.room).0, waiting_few s c)

  pub receive-three : (h : Heard) (r : Reply) (n : ℕ) → passed (receive_verdict p t a h r n) ≡ true → Stands
  unfolding receive_verdict
  receive-three h r n e = standing-three (eqb (kind_of r) 0) (first-passed (standing p t a (eqb (kind_of r) 0)) (reply_verdict s.link.last_time h r n) e).0

  -- nor do 15, 5 and 6
  pub record Receives (h : Heard) (n : ℕ) : Type 0 where
    pub stands : Stands
    pub standing : passed (standing p t a false) ≡ true
    pub few : n ≤ max_received
    pub time : time_ok s.link.last_time h.time ≡ true
    pub heard : heard_ok h ≡ true

  pub frames-passed : (h : Heard) (n : ℕ) → passed (frames_verdict p t a h n) ≡ true → Receives h n
  unfolding frames_verdict hearing_verdict
  frames-passed h n e =
      let q = first-passed (frames_standing (standing p t a false) n) (hearing_verdict s.link.last_time h) e in
      let f = few-passed (standing p t a false) n q.0 in
      let h₁ = over_first (not (time_ok s.link.last_time h.time)) BadTime _ refl q.1 in
      let h₂ = over_first (not (heard_ok h)) BadValue Accepted refl h₁.1 in
      record {
        stands = standing-three false f.1;
        standing = f.1;
        few = ltb-false max_received n f.0;
        time = not-false _ h₁.0;
        heard = not-false _ h₂.0;
      }

  -- nor does 10
  pub burst-passed : (n : ℕ) → passed (burst_verdict p t a n) ≡ true → (in_range p ≡ true) × (in_order p ≡ true) × (sound_ok p s a ≡ true) × (max_slots * p.long_bytes ≤ n) × Listed × Taken
  unfolding burst_verdict output_verdict
  burst-passed n h =
      let q = first-passed (standing p t a false) (output_verdict p.long_bytes n) h in
      let g = standing-three false q.0 in
      let o = over_first (ltb n (max_slots * p.long_bytes)) ShortOutput Accepted refl q.1 in
      (g.0, g.1, g.2, ltb-false n (max_slots * p.long_bytes) o.0, g.3, g.4)

  -- nor do 5, 6 and 7
  pub reply-passed : (h : Heard) (r : Reply) (n : ℕ) → passed (receive_verdict p t a h r n) ≡ true → (time_ok s.link.last_time h.time ≡ true) × (heard_ok h ≡ true) × (reply_ok r ≡ true)
  unfolding receive_verdict reply_verdict
  reply-passed h r n e =
      let q = first-passed (standing p t a (eqb (kind_of r) 0)) (reply_verdict s.link.last_time h r n) e in
      let h₁ = over_first (not (time_ok s.link.last_time h.time)) BadTime _ refl q.1 in
      let h₂ = over_first (not (heard_ok h && reply_ok r)) BadValue _ refl h₁.1 in
      let b = not-false _ h₂.0 in
      (not-false _ h₁.0, and_first (heard_ok h) (reply_ok r) b, and_second (heard_ok h) (reply_ok r) b)
