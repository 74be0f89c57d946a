-- Calls that are accepted, put together.
-- Assumes nothing.
use mathlib.Core.Path.{◌≡◌, refl, sym, ap, ap₂, ◌∙◌}
use mathlib.Core.List.{List, []}
use mathlib.Core.Bool.{true, false, cond}
use Prim.Native.Nat.{ℕ, ◌≤◌}
use native.Mathlib.Omega.{arith}
use lib.Dec.{leb, eqb}
use lib.ListN.{length}
use borrow.Author.Tests.{leb-true}
use Rattle.laws.proofs.Picks.{cond_yes, cond_no, by₂, and_first}
use Rattle.config.specs.declared.Profile.{Profile}
use Rattle.config.specs.Ranged.{Ranged}
use Rattle.config.proofs.ranges.Ranged.{ranged}
use Rattle.area.specs.Table.{rows_from}
use Rattle.pieces.proofs.Placed.{found-bytes}
use Rattle.record.specs.View.{view}
use Rattle.record.specs.declared.Sender.{Sender}
use Rattle.record.proofs.View.{Arrays}
use Rattle.soundness.proofs.fields.Sound.{test-sound, sound-counted, sound-level, sound-settling}
use Rattle.messages.proofs.Kept.{ok-sound}
use Rattle.queuing.specs.Station.{with_sender, queued_in}
use Rattle.queuing.specs.StationCode.{Fit}
use Rattle.queuing.specs.declared.Station.{Station}
use Rattle.replies.specs.declared.Heard.{Heard}
use Rattle.replies.specs.declared.ConnAck.{ConnAck}
use Rattle.replies.specs.declared.Ack.{Ack}
use Rattle.replies.specs.declared.Turn.{Turn}
use Rattle.std.specs.Prelude.{Result, Ok, Err}
use Rattle.refusals.specs.declared.Refusal.{Refusal}
use Rattle.refusals.specs.Verdict.{Verdict}
use Rattle.refusals.specs.declared.Reply.{Reply}
use Rattle.refusals.specs.declared.Reply.TheVariants as R
use Rattle.refusals.specs.Refusals.{kind_of, max_received, heard_ok}
use Rattle.verdicts.specs.Verdicts.{passed, standing, reply_verdict, queue_verdict, receive_verdict, frames_verdict}
use Rattle.receive.specs.Accepted.{accepted_reply}
use Rattle.reception.specs.Reception.{decoded_in, frames_heard}
use Rattle.reception.specs.declared.Reception.{Reception}
use Rattle.sender.specs.CallsCode.{verdict_after, settled, judged_reply}
use Rattle.sender.specs.Numbered.{answer_number, after_reply}
use Rattle.sender.specs.Calls.{Answer, Finding, queue_of, receive_of, frames_of, find_of, piece_of}
use Rattle.verdicts.proofs.Passed.{numbered, queue-passed, queue-room, receive-three, reply-passed, frames-passed}
use Rattle.area.specs.FindCode.{bytes_at}
use Rattle.replies.specs.RepliesCode.{ReplyReady}

abbrev answer : Verdict → Station × List ℕ → Answer × List ℕ
answer v x = (record { verdict = v; next = x.0 }, x.1)

module _ (p : Profile) (t : Station) (a : List ℕ) where
  abbrev s : Sender
  s = t.sender

  -- ---- a queuing

  module _ (class label : ℕ) (bs : List ℕ) where
    abbrev judged : Verdict
    judged = queue_verdict p t a class label (length bs)

    pub queue-refused : (v : Verdict) → v ≡ judged → passed judged ≡ false → answer v (t, a) ≡ queue_of p t a class label bs
    unfolding queue_of
    queue-refused v e d = cond_no _ _ _ _ d (ap (λ (u : Verdict). answer u (t, a)) e)

    pub queue-accepted : (x : Station × List ℕ) (v : Verdict) → v ≡ judged → passed judged ≡ true → x ≡ queued_in class label bs t a → answer v x ≡ queue_of p t a class label bs
    unfolding queue_of
    queue-accepted x v e ok d = cond_yes _ _ _ _ ok (ap₂ answer e d)

    pub queue-fit : Arrays s → passed judged ≡ true → Fit t a label (length bs)
    queue-fit ar ok =
        let q = queue-passed p t a class label (length bs) ok in
        let r = queue-room p t a class label (length bs) ok in
        let c = sound-counted p s a (test-sound p s a ar q.sound) in
        record {
          area = c.area;
          held = c.held;
          rest = c.rest;
          sent = c.sent;
          pieces = c.pieces;
          flying = c.flying;
          stream = r.0;
          space =
              record {
                area = omega (arith, r.0, c.area);
                messages = ok-sound _ _ q.listed;
                waits = r.3;
                bytes = r.2;
                row = q.row;
                taken = omega (arith, q.took);
              };
        }

  -- ---- a reply

  pub receive-refused : (h : Heard) (r : Reply) (payload : List ℕ) (v : Verdict) → v ≡ receive_verdict p t a h r (length payload)
      → passed (receive_verdict p t a h r (length payload)) ≡ false
      → answer v (t, a) ≡ receive_of p t a h r payload
  unfolding receive_of
  receive-refused h r payload v e d = cond_no _ _ _ _ d (ap (λ (u : Verdict). answer u (t, a)) e)

  -- in two steps
  judged-settled : (w : Verdict) (x : Sender × List ℕ) → let y = settled w x a in
      (after_reply t y.0, y.1) ≡ answer_number (cond (passed w) (answer w (with_sender t x.0, x.1)) (answer w (t, a)))
  judged-settled (Ok o) x = refl
  judged-settled (Err r) x = ap answer_number (cond_no _ _ _ _ (numbered r) refl)

  pub judged-reply : (h : Heard) (r : Reply) (payload : List ℕ) (v : Verdict) (x : Result Sender Refusal × List ℕ) → v ≡ standing p t a (eqb (kind_of r) 0)
      → x ≡ judged_reply v p s a h r payload → (after_reply t x.0, x.1) ≡ answer_number (receive_of p t a h r payload)
  unfolding receive_of judged_reply receive_verdict
  judged-reply h r payload v x e d =
      ap (λ (y : Result Sender Refusal × List ℕ). (after_reply t y.0, y.1)) (d ∙ ap (λ (u : Verdict). judged_reply u p s a h r payload) e)
      ∙ judged-settled (receive_verdict p t a h r (length payload)) (accepted_reply p h r payload s a)

  -- a payload is read of a long ack alone
  module _ (h : Heard) (payload : List ℕ) where
    pub connect-alone : (c : ConnAck) → receive_of p t a h (R.ConnAck c) [] ≡ receive_of p t a h (R.ConnAck c) payload
    unfolding receive_of receive_verdict reply_verdict
    connect-alone c = refl

    pub short-alone : (c : Ack) → receive_of p t a h (R.Ack c) [] ≡ receive_of p t a h (R.Ack c) payload
    unfolding receive_of receive_verdict reply_verdict
    short-alone c = refl

    pub turn_alone : (c : Turn) → receive_of p t a h (R.Turn c) [] ≡ receive_of p t a h (R.Turn c) payload
    unfolding receive_of receive_verdict reply_verdict
    turn_alone c = refl

  -- what an accepted one stands on, where 1 to 4 gave v
  pub reply-ready : Arrays s → (h : Heard) (r : Reply) (n : ℕ) (v : Verdict) → v ≡ standing p t a (eqb (kind_of r) 0)
      → passed (verdict_after v s h r n) ≡ true → Ranged p × ReplyReady p s a × (h.wave ≤ 5)
  unfolding receive_verdict heard_ok
  reply-ready ar h r n v e passes =
      let ok : passed (receive_verdict p t a h r n) ≡ true = ap (λ (u : Verdict). passed (verdict_after u s h r n)) (sym e) ∙ passes in
      let q = receive-three p t a h r n ok in
      let so = test-sound p s a ar q.2 in (
        ranged p q.0,
        record { level = sound-level p s a so; settling = sound-settling p s a so ar; sound = so.ledger },
        leb-true h.wave 5 (and_first (leb h.wave 5) _ (reply-passed p t a h r n ok).1),
      )

  -- ---- all frames of one reception

  pub frames-refused : (h : Heard) (r : Reception) (payloads : List ℕ) (v : Verdict) → v ≡ frames_verdict p t a h r.n
      → passed (frames_verdict p t a h r.n) ≡ false → answer v (t, a) ≡ frames_of p t a h r payloads
  unfolding frames_of
  frames-refused h r payloads v e d = cond_no _ _ _ _ d (ap (λ (u : Verdict). answer u (t, a)) e)

  module _ (h : Heard) (r : Reception) (payloads : List ℕ) (ok : passed (frames_verdict p t a h r.n) ≡ true) where
    pub frames-ranged : Ranged p
    frames-ranged = ranged p (frames-passed p t a h r.n ok).stands.0

    pub frames-ready : Arrays s → ReplyReady p s a × (h.wave ≤ 5) × (r.n ≤ max_received)
    unfolding heard_ok
    frames-ready ar =
        let q = frames-passed p t a h r.n ok in
        let so = test-sound p s a ar q.stands.2 in (
          record { level = sound-level p s a so; settling = sound-settling p s a so ar; sound = so.ledger },
          leb-true h.wave 5 (and_first (leb h.wave 5) _ q.heard),
          q.few,
        )

    pub frames-accepted : (x : Sender × List ℕ) (v : Verdict) → v ≡ frames_verdict p t a h r.n → x ≡ frames_heard p h (decoded_in r payloads) (s, a)
        → answer v (with_sender t x.0, x.1) ≡ frames_of p t a h r payloads
    unfolding frames_of
    frames-accepted x v e d = cond_yes _ _ _ _ ok (ap₂ (λ (u : Verdict) (y : Sender × List ℕ). answer u (with_sender t y.0, y.1)) e d)

-- ---- lookup

-- what `find` says where to find is what `piece` hands out
pub find-piece : (p : Profile) (t : Station) (a : List ℕ) (off : ℕ) → bytes_at a (find_of p t a off).found ≡ piece_of p t a off
unfolding find_of piece_of view
find-piece p t a off =
    by₂ (λ (f : Finding) (bs : List ℕ). bytes_at a f.found ≡ bs) (passed (standing p t a false)) (λ e. found-bytes off 0 a (rows_from a 0 t.sender.counts.pieces)) (λ e. refl)
