-- Turns and connect answers, put together; a turn leaves what the ledger leaves.
-- Assumes nothing.
use mathlib.Core.Path.{◌≡◌, refl, sym, ap, ap₂, ◌∙◌}
use mathlib.Core.List.{List}
use mathlib.Core.Bool.{Bool, false, ◌&&◌}
use Prim.Native.Nat.{ℕ, ◌+◌, ◌%◌, ◌^◌, ◌≤◌}
use native.Mathlib.Omega.{arith}
use native.Mathlib.Nat.{zero-div}
use lib.Dec.{eqb}
use lib.Ieee.{Float}
use borrow.Author.Tests.{ne_eqb}
use Rattle.laws.specs.Bytes.{Bytes}
use Rattle.config.specs.declared.Profile.{Profile}
use Rattle.gear.specs.declared.Gear.{Gear}
use Rattle.gear.specs.declared.Outcome.{Outcome}
use Rattle.gear.specs.OtherReplies.{connected, on_turn}
use Rattle.ledger.specs.Ledger.{clear_burst}
use Rattle.record.specs.View.{view, store, store_area}
use Rattle.record.specs.declared.Sender.{Sender}
use Rattle.record.proofs.View.{Counted, Arrays}
use Rattle.settle.proofs.Settles.{Bits}
use Rattle.settle.specs.Outcomes.{outcome_of}
use Rattle.settle.proofs.outcome.Outcomes.{outcome-is}
use Rattle.settle.proofs.outcome.Cleared.{cleared}
use Rattle.replies.specs.declared.ConnAck.{ConnAck}
use Rattle.replies.specs.declared.Heard.{Heard}
use Rattle.replies.specs.declared.Turn.{Turn}
use Rattle.replies.specs.Replies.{connect_noted, turn_db, nothing_heard, turned, connected_to}
use Rattle.record.specs.Setters.{with_gear, with_link, with_time}
use Rattle.limits.specs.Limits.{max_slots}
use Rattle.settle.specs.AckInCode.{without_burst}
use Rattle.settle.specs.OutcomesCode.{outcome_in}
use Rattle.replies.specs.RepliesCode.{ReplyReady, turned_to}

no_bits : (n : ℕ) → Bits (λ (i : ℕ). false) 0 0 n
no_bits n j h = sym (ap (λ (x : ℕ). eqb (x % 2) 1) (zero-div (2 ^ j)))

module _ (p : Profile) (s : Sender) (a : List ℕ) (an : ReplyReady p s a) (ar : Arrays s) (by : Bytes a) (h : Heard) (r : Turn) where
  counted : Counted s a
  counted =
      let n = an.settling in
      record { area = n.area; held = n.held; rest = n.rest; sent = omega (arith, n.out); pieces = n.pieces; flying = n.flying; stream = omega (arith, n.flies, n.waits) }

  few : s.last_burst.n ≤ max_slots
  few = omega (arith, an.settling.out)

  other-number : eqb ((s.link.burst_id + 1) % 4) s.link.burst_id ≡ false
  unfolding view
  other-number = ne_eqb ((s.link.burst_id + 1) % 4) s.link.burst_id (λ e. omega (arith, e, an.sound.number))

  outcome : outcome_in 0 false s.last_burst ≡ outcome_of (nothing_heard (view s a)) (view s a)
  unfolding view
  outcome = ap (λ (b : Bool). outcome_in 0 b s.last_burst) (sym other-number) ∙ outcome-is 0 (nothing_heard (view s a)) s a ar few (no_bits s.last_burst.n)

  abbrev next : Outcome → Sender
  next o = with_link (with_gear s (on_turn p s.gear o (turn_db h r) h.wave h.time)) (with_time s.link h.time)

  pub turned-is : ◌≡◌ {A = Sender × List ℕ} (turned_to p h r s, a) (turned p h r s a)
  unfolding turned_to turned
  turned-is =
      cleared s a counted ar by (on_turn p s.gear (outcome_in 0 false s.last_burst) (turn_db h r) h.wave h.time) (with_time s.link h.time) refl
      ∙ ap (λ (o : Outcome). (store (clear_burst (view s a)) (next o), store_area (clear_burst (view s a)) a)) outcome

-- ---- as the code goes

pub turn_is : (p : Profile) (h : Heard) (r : Turn) (s q : Sender) (o : Outcome) (db : Float) (g : Gear) → o ≡ outcome_in 0 false s.last_burst → db ≡ turn_db h r
    → g ≡ on_turn p s.gear o db h.wave h.time → q ≡ without_burst (with_link (with_gear s g) (with_time s.link h.time)) → q ≡ turned_to p h r s
unfolding turned_to
turn_is p h r s q o db g e₁ e₂ e₃ e₄ =
    e₄ ∙ ap (λ (x : Gear). without_burst (with_link (with_gear s x) (with_time s.link h.time)))
    (e₃ ∙ ap₂ (λ (x : Outcome) (y : Float). on_turn p s.gear x y h.wave h.time) e₁ e₂)

pub connect-is : (p : Profile) (h : Heard) (r : ConnAck) (s : Sender) (g : Gear)
    → g ≡ connected p s.gear r.class (p.cue && r.cue) r.snr_db h.time
    → with_link (with_gear s g) (connect_noted s.link h.time r.session r.slot) ≡ connected_to p h r s
unfolding connected_to
connect-is p h r s g e = ap (λ (x : Gear). with_link (with_gear s x) (connect_noted s.link h.time r.session r.slot)) e
