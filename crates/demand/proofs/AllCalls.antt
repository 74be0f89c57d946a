-- Each call of the sender is a call of the ledger, under a profile that is not refused: all calls. A reception is, by its single calls
-- (AsSingles.antt), what the ledger hears of them one after the other.
-- Assumes nothing.
use mathlib.Core.Path.{◌≡◌, refl, sym, ap, ◌∙◌, subst}
use mathlib.Core.List.{List, [], ◌∷◌}
use mathlib.Core.Bool.{Bool, true, false, cond, false≢true}
use Prim.Native.Nat.{ℕ, ◌≤◌}
use lib.ListN.{length}
use Rattle.std.proofs.Common.{Option}
use Rattle.laws.specs.Bytes.{Bytes}
use Rattle.laws.proofs.Picks.{test, by}
use Rattle.report.specs.Ack.{info_of}
use Rattle.report.specs.declared.ack.AckInfo.{AckInfo}
use Rattle.config.specs.declared.Profile.{Profile}
use Rattle.config.specs.Ranged.{Ranged}
use Rattle.config.specs.Ranges.{in_range, in_order}
use Rattle.ledger.specs.Calls.{run}
use Rattle.ledger.specs.CallsCode as C
use Rattle.ledger.specs.CallsCode.{idle}
use Rattle.ledger.specs.Plan.{plan_of}
use Rattle.ledger.specs.Reply as R
use Rattle.ledger.specs.Reply.{long_ack}
use Rattle.ledger.specs.Sizes.{Sizes}
use Rattle.ledger.specs.Tally.{replies}
use Rattle.outgoing.specs.Choosing.{choice}
use Rattle.record.specs.Profiles.{sizes_of}
use Rattle.settle.specs.AckIn.{keeps}
use Rattle.replies.specs.declared.Heard.{Heard}
use Rattle.refusals.specs.Refusals.{heard_ok}
use Rattle.refusals.specs.declared.Reply.TheVariants.{LongAck}
use Rattle.verdicts.specs.Verdicts.{passed, queue_verdict, receive_verdict, frames_verdict, burst_verdict}
use Rattle.verdicts.proofs.Passed.{frames-passed}
use Rattle.reception.specs.Reception.{Decoded, decoded_in, is_ack_read, flags_of}
use Rattle.reception.specs.declared.Reception.{Reception}
use Rattle.reception.proofs.Laws.{read-long, read-info}
use Rattle.demand.specs.Lists.{Call, queues, hears, receives, bursts, State, Given, shown, replies_in, next}
use Rattle.demand.specs.AsSingles.{singles_of, Typed}
use Rattle.demand.proofs.Answers.{queue-no, queue-told, hear-no, hear-told, frames-no, frames-told, burst-no, burst-silent}
use Rattle.demand.proofs.AsSingles.{single, EachBytes, each-bytes, Takes, takes, after-takes, next-is, finds, as-singles}
use Rattle.demand.proofs.Connected.{Quiet}
use Rattle.demand.proofs.Steps.{Ok, Does, does-idle, does-queue, does-hear, does-burst, long_call_of, call_of}

module _ (p : Profile) (rg : Ranged p) (io : in_order p ≡ true) (six : length p.codes.ends ≤ 6) where
  abbrev z : Sizes
  z = sizes_of p

  abbrev Good : State → Type 0
  Good = Ok p rg io six

  -- ---- a reception

  module _ (h : Heard) where
    -- what the ledger hears of the frames that are read
    abbrev pub heard_in : List Decoded → State → List (R.Reply × Bool)
    heard_in [] c = []
    heard_in (f ∷ fs) c =
        let i = info_of f.payload in
        cond (is_ack_read f)
        ((long_ack i.burst i.bitmap, keeps p c.0.sender.gear (flags_of f.flags).stored) ∷ heard_in fs (next p (single h f) c))
        (heard_in fs c)

    replies-are : (fs : List Decoded) (c : State) → replies_in fs ≡ C.replies_of (heard_in fs c)
    replies-are [] c = refl
    replies-are (f ∷ fs) c =
        test (is_ack_read f)
        (λ e. rw e (ap (λ (rs : List R.Reply). long_ack (info_of f.payload).burst (info_of f.payload).bitmap ∷ rs) (replies-are fs (next p (single h f) c))))
        (λ e. rw e (replies-are fs c))

    module _ (ir : in_range p ≡ true) (ok : heard_ok h ≡ true) where
      -- connected, so it awaits nothing before it is
      quiet : (c : State) → Takes p rg ir io h ok c → Quiet c
      quiet c k e = absurd (false≢true (sym e ∙ k.connected))

      -- a frame that is read
      one-does : (f : Decoded) (c : State) → is_ack_read f ≡ true → Bytes f.payload → Good c → Takes p rg ir io h ok c
          → Does p rg io six (single h f) c (C.ack_move (long_ack (info_of f.payload).burst (info_of f.payload).bitmap) (keeps p c.0.sender.gear (flags_of f.flags).stored))
      one-does f c e b w k =
          subst (λ (x : Option AckInfo). Does p rg io six (single h f) c (long_call_of p rg io six c.0.sender (flags_of f.flags) x)) (read-info f.payload (read-long f e))
          (does-hear p rg io six h c w (quiet c k) (LongAck (flags_of f.flags)) f.payload b (takes p rg ir io h ok c k f e))

      all-step : (fs : List Decoded) (c : State) → EachBytes fs → Good c → Takes p rg ir io h ok c
          → (shown (run (next p) (singles_of h fs) c) ≡ C.step z (C.acks_move (heard_in fs c)) (shown c)) × Good (run (next p) (singles_of h fs) c)
      all-step [] c b w k = (refl, w)
      all-step (f ∷ fs) c b w k =
          test (is_ack_read f)
          (λ e.
          let d = one-does f c e b.0 w k in
          let k' = subst (Takes p rg ir io h ok) (sym (next-is p rg ir io h ok f c k e)) (after-takes p rg ir io h ok f c e b.0 k) in
          let i = all-step fs (next p (single h f) c) b.1 d.keeps k' in
          rw e (i.0 ∙ ap (C.step z (C.acks_move (heard_in fs (next p (single h f) c)))) d.steps, i.1))
          (λ e. rw e (all-step fs c b.1 w k))

  pub typed : (c : State) → Good c → Typed c
  typed c w =
      let ar = w.well.arrays in
      record {
        held_off = ar.held_off;
        held_bits = ar.held_bits;
        sent_off = ar.sent_off;
        sent_bits = ar.sent_bits;
        sent_held = ar.sent_held;
        gear = w.well.typed;
        bytes = w.well.bytes;
      }

  does-frames : (h : Heard) (r : Reception) (b : List ℕ) (c : State) → Bytes b → Good c → passed (frames_verdict p c.0 c.1 h r.n) ≡ true
      → Does p rg io six (receives h r b) c (C.acks_move (heard_in h (decoded_in r b) c))
  does-frames h r b c by8 w e =
      let ty = typed c w in
      let q = frames-passed p c.0 c.1 h r.n e in
      let ir = q.stands.0 in
      let k = finds p rg io h c r.n ty q in
      let x = all-step h ir q.heard (decoded_in r b) c (each-bytes r b by8) w k in
      let s = (as-singles p c h r b q.few ty by8).state in
      record {
        allowed = tt;
        steps = ap shown s ∙ x.0;
        tells = frames-told p c h r b true e ∙ ap replies (replies-are h (decoded_in r b) c);
        keeps = subst Good (sym s) x.1;
      }

  -- ---- all calls

  abbrev pub call : Call → State → C.Move
  call (queues k l bs) c = cond (passed (queue_verdict p c.0 c.1 k l (length bs))) (C.queue_move k l bs) idle
  call (hears h r b) c = cond (passed (receive_verdict p c.0 c.1 h r (length b))) (call_of p rg io six c.0.sender r b) idle
  call (receives h r b) c = cond (passed (frames_verdict p c.0 c.1 h r.n)) (C.acks_move (heard_in h (decoded_in r b) c)) idle
  call (bursts out) c = cond (passed (burst_verdict p c.0 c.1 (length out))) (C.burst_move (plan_of z (choice p c.0.sender) (shown c).sender)) idle

  pub does : (i : Call) (c : State) → Given i c → Good c → Quiet c → Does p rg io six i c (call i c)
  does (queues k l bs) c g w q =
      by (Does p rg io six (queues k l bs) c) (passed (queue_verdict p c.0 c.1 k l (length bs))) (does-queue p rg io six k l bs c g w)
      (λ e. does-idle p rg io six (queues k l bs) c w (queue-no p c k l bs e) (queue-told p c k l bs false e))
  does (hears h r b) c g w q =
      by (Does p rg io six (hears h r b) c) (passed (receive_verdict p c.0 c.1 h r (length b))) (does-hear p rg io six h c w q r b g)
      (λ e. does-idle p rg io six (hears h r b) c w (hear-no p c h r b e) (hear-told p c h r b false e))
  does (receives h r b) c g w q =
      by (Does p rg io six (receives h r b) c) (passed (frames_verdict p c.0 c.1 h r.n)) (does-frames h r b c g w)
      (λ e. does-idle p rg io six (receives h r b) c w (frames-no p c h r b e) (frames-told p c h r b false e))
  does (bursts out) c g w q =
      by (Does p rg io six (bursts out) c) (passed (burst_verdict p c.0 c.1 (length out))) (does-burst p rg io six out c w)
      (λ e. does-idle p rg io six (bursts out) c w (burst-no p c out e) (burst-silent p c out e))
