-- Every accepted call leaves the record connected, so a record that is not connected awaits no ack: a connect answer changes nothing that the ledger sees.
-- Assumes nothing.
use mathlib.Core.Path.{◌≡◌, refl, sym, ap, subst, ◌∙◌}
use mathlib.Core.List.{List, [], ◌∷◌}
use mathlib.Core.Bool.{Bool, true, false, cond, not, ◌&&◌, ◌||◌, false≢true}
use Prim.Native.Nat.{ℕ}
use lib.Dec.{eqb}
use lib.ListN.{length}
use Rattle.std.proofs.Common.{Option, Some, None}
use Rattle.laws.proofs.Picks.{test, by, either}
use Rattle.config.specs.declared.Profile.{Profile}
use Rattle.config.specs.Ranges.{in_range, in_order}
use Rattle.report.specs.Ack.{ack_of}
use Rattle.report.specs.declared.ack.AckInfo.{AckInfo}
use Rattle.record.specs.View.{store_link, store}
use Rattle.record.specs.declared.Sender.{Sender}
use Rattle.settle.specs.AckIn.{ack_in}
use Rattle.outgoing.specs.Outgoing.{burst_of}
use Rattle.replies.specs.declared.Heard.{Heard}
use Rattle.replies.specs.declared.ConnAck as E
use Rattle.replies.specs.declared.LongAck as B
use Rattle.replies.specs.Replies.{short_acked, long_acked, turned, connected_to}
use Rattle.receive.specs.Accepted.{long_read, accepted_reply}
use Rattle.reception.specs.Reception.{Decoded, decoded_in, is_ack_read, flags_of, frames_heard}
use Rattle.verdicts.proofs.Passed.{frames-passed}
use Rattle.refusals.specs.Refusals.{kind_of}
use Rattle.refusals.specs.declared.Reply.{Reply}
use Rattle.refusals.specs.declared.Reply.TheVariants.{ConnAck, Ack, LongAck, Turn}
use Rattle.refusals.specs.Verdict.{Verdict}
use Rattle.refusals.specs.Verdict.{Accepted, ProfileOutOfRange, ShortOverLong, Unsound, OutOfTurn}
use Rattle.queuing.specs.Station.{with_sender, store_station, queued_in}
use Rattle.queuing.specs.declared.Station.{Station}
use Rattle.verdicts.specs.Verdicts.{station_ok, passed, standing, first_of, queue_verdict, receive_verdict, frames_verdict, burst_verdict}
use Rattle.demand.specs.Lists.{Call, queues, hears, receives, bursts, State, next}
use Rattle.demand.proofs.Answers.{queue-yes, queue-no, hear-yes, hear-no, frames-yes, frames-no, burst-yes, burst-no}

-- a record that is not connected awaits nothing
abbrev pub Quiet : State → Type 0
Quiet c = c.0.sender.link.connected ≡ false → c.0.sender.link.awaiting ≡ false

abbrev On : Sender × List ℕ → Type 0
On x = x.0.link.connected ≡ true

-- ---- refusal 4

first-passed : (v w : Verdict) → passed (first_of v w) ≡ true → passed v ≡ true
first-passed v w e = test (passed v) (λ t. t) (λ t. absurd (false≢true (sym (ap (λ (b : Bool). passed (cond b w v)) t ∙ t) ∙ e)))

in-turn : (x y z c d : Bool) → passed (cond (not x) ProfileOutOfRange (cond (not y) ShortOverLong (cond (not z) Unsound (cond ((c && d) || (not c && not d)) OutOfTurn Accepted)))) ≡ true → c ≡ not d
in-turn false y z c d e = absurd (false≢true e)
in-turn true false z c d e = absurd (false≢true e)
in-turn true true false c d e = absurd (false≢true e)
in-turn true true true true true e = absurd (false≢true e)
in-turn true true true true false e = refl
in-turn true true true false true e = refl
in-turn true true true false false e = absurd (false≢true e)

module _ (p : Profile) (t : Station) (a : List ℕ) where
  abbrev s : Sender
  s = t.sender

  pub stands_on : passed (standing p t a false) ≡ true → s.link.connected ≡ true
  unfolding standing
  stands_on e = in-turn (in_range p) (in_order p) (station_ok p t a) s.link.connected false e

  pub connect-off : (h : Heard) (r : E.ConnAck) (n : ℕ) → passed (receive_verdict p t a h (ConnAck r) n) ≡ true → s.link.connected ≡ false
  unfolding standing receive_verdict
  connect-off h r n e = in-turn (in_range p) (in_order p) (station_ok p t a) s.link.connected true (first-passed (standing p t a true) _ e)

  -- ---- replies

  module _ (h : Heard) where
    long-on : (r : B.LongAck) (x : Option AckInfo) → s.link.connected ≡ true → On (long_read p h r x s a)
    unfolding long_acked ack_in store store_link
    long-on r None e = e
    long-on r (Some i) e = either On s.link.awaiting _ _ e e

    reply-on : (r : Reply) (b : List ℕ) → passed (standing p t a (eqb (kind_of r) 0)) ≡ true → On (accepted_reply p h r b s a)
    unfolding connected_to short_acked turned ack_in store store_link
    reply-on (ConnAck r) b e = refl
    reply-on (Ack r) b e = either On s.link.awaiting _ _ (stands_on e) (stands_on e)
    reply-on (LongAck r) b e = long-on r (ack_of b) (stands_on e)
    reply-on (Turn r) b e = stands_on e

-- ---- a reception

frames-on : (p : Profile) (h : Heard) (fs : List Decoded) (t : Station) (a : List ℕ) → t.sender.link.connected ≡ true → On (frames_heard p h fs (t.sender, a))
unfolding frames_heard
frames-on p h [] t a e = e
frames-on p h (f ∷ fs) t a e =
    by (λ (c : Sender × List ℕ). On (frames_heard p h fs c)) (is_ack_read f)
    (λ _.
    let g = flags_of f.flags in
    let i = ack_of f.payload in
    let x = long_read p h g i t.sender a in frames-on p h fs (with_sender t x.0) x.1 (long-on p t a h g i e))
    (λ _. frames-on p h fs t a e)

-- ---- all calls

-- a queuing that is accepted leaves the link as it is
queued-on : (t : Station) (a : List ℕ) (k l : ℕ) (bs : List ℕ) → t.sender.link.connected ≡ true
    → (queued_in k l bs t a).0.sender.link.connected ≡ true
unfolding queued_in store_station store store_link
queued-on t a k l [] e = e
queued-on t a k l (b ∷ bs) e = e

burst-on : (p : Profile) (s : Sender) (a out : List ℕ) → s.link.connected ≡ true → (burst_of p s a out).0.1.link.connected ≡ true
unfolding burst_of store store_link
burst-on p s a out e = e

pub quiet_next : (p : Profile) (i : Call) (c : State) → Quiet c → Quiet (next p i c)
unfolding queue_verdict receive_verdict burst_verdict
quiet_next p (queues k l bs) c q =
    test (passed (queue_verdict p c.0 c.1 k l (length bs)))
    (λ e. subst Quiet (sym (queue-yes p c k l bs e))
    (λ f.
    let on = stands_on p c.0 c.1 (first-passed (standing p c.0 c.1 false) _ e) in
    absurd (false≢true (sym f ∙ queued-on c.0 c.1 k l bs on))))
    (λ e. subst Quiet (sym (queue-no p c k l bs e)) q)
quiet_next p (hears h r b) c q =
    test (passed (receive_verdict p c.0 c.1 h r (length b)))
    (λ e. subst Quiet (sym (hear-yes p c h r b e))
    (λ f. absurd (false≢true (sym f ∙ reply-on p c.0 c.1 h r b (first-passed (standing p c.0 c.1 (eqb (kind_of r) 0)) _ e)))))
    (λ e. subst Quiet (sym (hear-no p c h r b e)) q)
quiet_next p (receives h r b) c q =
    test (passed (frames_verdict p c.0 c.1 h r.n))
    (λ e. subst Quiet (sym (frames-yes p c h r b e))
    (λ f.
    let on = stands_on p c.0 c.1 (frames-passed p c.0 c.1 h r.n e).standing in
    absurd (false≢true (sym f ∙ frames-on p h (decoded_in r b) c.0 c.1 on))))
    (λ e. subst Quiet (sym (frames-no p c h r b e)) q)
quiet_next p (bursts out) c q =
    test (passed (burst_verdict p c.0 c.1 (length out)))
    (λ e. subst Quiet (sym (burst-yes p c out e))
    (λ f. absurd (false≢true (sym f ∙ burst-on p c.0.sender c.1 out (stands_on p c.0 c.1 (first-passed (standing p c.0 c.1 false) _ e))))))
    (λ e. subst Quiet (sym (burst-no p c out e)) q)
