-- A burst, refused or accepted.
-- Assumes nothing.
use mathlib.Core.Path.{◌≡◌, sym, ap, ap₂, ◌∙◌}
use mathlib.Core.List.{List}
use mathlib.Core.Bool.{true, false}
use Prim.Native.Nat.{ℕ, ◌-◌, ◌≤◌}
use native.Mathlib.Omega.{arith}
use lib.ListN.{length}
use Rattle.laws.proofs.Picks.{cond_yes, cond_no}
use Rattle.config.specs.declared.Profile.{Profile}
use Rattle.outgoing.specs.Outgoing.{burst_of}
use Rattle.outgoing.specs.declared.Outgoing.{Outgoing}
use Rattle.record.specs.declared.Sender.{Sender}
use Rattle.refusals.specs.Verdict.{Verdict}
use Rattle.verdicts.specs.Verdicts.{passed, burst_verdict}
use Rattle.messages.specs.declared.Messages.{Messages}
use Rattle.messages.specs.MessagesCode.{flown}
use Rattle.messages.proofs.Link.{fly-stores}
use Rattle.messages.proofs.Kept.{ok-sound}
use Rattle.queuing.specs.Station.{view_station}
use Rattle.queuing.specs.declared.Station.{Station}
use Rattle.ledger.specs.Ledger.{data_burst}
use Rattle.record.specs.View.{view, store, store_counts}
use Rattle.record.proofs.View.{Arrays}
use Rattle.laws.proofs.Bytes.{length_part}
use Rattle.soundness.proofs.fields.Sound.{test-sound, sound-counted}
use Rattle.verdicts.proofs.Passed.{burst-passed}
use Rattle.sender.specs.Calls.{Bursted, no_burst, messages_after, burst_call}

abbrev bursted : Verdict → Outgoing → Station → List ℕ × List ℕ → Bursted × (List ℕ × List ℕ)
bursted v o t x = (record { verdict = v; outgoing = o; next = t }, x)

-- the next offset passes over the bytes that begin to fly
pub next_grows : (p : Profile) (s : Sender) (a out : List ℕ) → s.counts.next_offset ≤ (burst_of p s a out).0.1.counts.next_offset
unfolding burst_of store store_counts data_burst view
next_grows p s a out = omega arith

module _ (p : Profile) (t : Station) (a out : List ℕ) where
  pub burst-refused : (v : Verdict) (o : Outgoing) → v ≡ burst_verdict p t a (length out) → o ≡ no_burst → passed (burst_verdict p t a (length out)) ≡ false
      → bursted v o t (a, out) ≡ burst_call p t a out
  unfolding burst_call
  burst-refused v o e f d = cond_no _ _ _ _ d (ap₂ (λ (u : Verdict) (x : Outgoing). bursted u x t (a, out)) e f)

  module _ (ar : Arrays t.sender) (ok : passed (burst_verdict p t a (length out)) ≡ true) where
    -- the bytes that begin to fly leave their messages
    pub messages-after : (s : Sender) → flown (s.counts.next_offset - t.sender.counts.next_offset) t.messages ≡ messages_after t a s
    unfolding messages_after view_station view
    messages-after s =
        let q = burst-passed p t a (length out) ok in
        let c = sound-counted p t.sender a (test-sound p t.sender a ar q.2) in
        let n = length_part a t.sender.counts.flying t.sender.counts.waiting (omega (arith, c.stream, c.area)) in
        fly-stores t.messages _ ((ok-sound _ _ q.4).sum ∙ sym n) (s.counts.next_offset - t.sender.counts.next_offset)

    pub burst-accepted : (v : Verdict) (m : Messages) (x : (Outgoing × Sender) × (List ℕ × List ℕ)) → v ≡ burst_verdict p t a (length out) → x ≡ burst_of p t.sender a out
        → m ≡ flown (x.0.1.counts.next_offset - t.sender.counts.next_offset) t.messages
        → bursted v x.0.0 (record { sender = x.0.1; messages = m }) x.1 ≡ burst_call p t a out
    unfolding burst_call
    burst-accepted v m x e f g =
        cond_yes _ _ _ _ ok
        (ap₂ (λ (u : Verdict) (k : Messages). bursted u x.0.0 (record { sender = x.0.1; messages = k }) x.1) e (g ∙ messages-after x.0.1)
        ∙ ap (λ (y : (Outgoing × Sender) × (List ℕ × List ℕ)). bursted (burst_verdict p t a (length out)) y.0.0 (record { sender = y.0.1; messages = messages_after t a y.0.1 }) y.1) f)
