-- An awaited ack leaves what the ledger leaves.
-- Assumes nothing.
use mathlib.Core.Path.{◌≡◌, refl, sym, ap, ap₂, ◌∙◌}
use mathlib.Core.List.{List}
use mathlib.Core.Bool.{Bool, true, false, cond, ◌&&◌}
use Prim.Native.Nat.{ℕ}
use lib.Dec.{eqb, ltb}
use lib.Ieee.{Float}
use lib.ListN.{length}
use Rattle.laws.specs.Bytes.{Bytes}
use Rattle.laws.proofs.Picks.{test}
use Rattle.level.specs.Ladder.{wave_rank}
use Rattle.harq.specs.Held.{h_max}
use Rattle.config.specs.declared.Profile.{Profile}
use Rattle.gear.specs.declared.Gear.{Gear}
use Rattle.gear.specs.Judging.{on_ack}
use Rattle.gear.specs.declared.Outcome.{Outcome}
use Rattle.ledger.specs.Reply.{Reply}
use Rattle.ledger.specs.Ledger as L
use Rattle.ledger.specs.Ledger.{settles, settle_burst, clear_burst}
use Rattle.ledger.specs.Sound.{Sound}
use Rattle.record.specs.View.{sent_in, view, store, store_area}
use Rattle.record.specs.declared.LastBurst.{LastBurst}
use Rattle.record.specs.declared.Sender.{Sender}
use Rattle.record.proofs.View.{Counted, Arrays}
use Rattle.settle.specs.Settle.{settled}
use Rattle.settle.proofs.Settles as S
use Rattle.settle.proofs.Settles.{Bits}
use Rattle.settle.specs.Outcomes.{outcome_of}
use Rattle.settle.specs.AckIn.{keeps, ack_in}
use Rattle.settle.proofs.outcome.Cleared.{cleared}
use Rattle.settle.proofs.outcome.Outcomes.{outcome-is, length-sent}
use Rattle.record.specs.Setters.{with_gear, with_link, with_wave}
use Rattle.ledger.specs.Sizes.{Sizes}
use Rattle.settle.specs.AckInCode.{without_burst, acked_by}
use Rattle.settle.specs.OutcomesCode.{outcome_in}

module _ (z : Sizes) (p : Profile) (r : Reply) (m : ℕ) (stored : Bool) (snr time : Float) (s : Sender) (a : List ℕ)
    (so : Sound z (view s a)) (c : Counted s a) (ar : Arrays s) (by : Bytes a) (aw : s.link.awaiting ≡ true)
    (bits : Bits (r.bit (length (sent_in s.last_burst))) 0 m s.last_burst.n) where
  abbrev before : L.Sender
  before = view s a

  abbrev last : LastBurst
  last = s.last_burst

  abbrev matched : Bool
  matched = eqb r.number s.link.burst_id

  -- the gear after it, as the code reckons it and as the definition has it
  abbrev judged : Outcome → Gear
  judged o = on_ack p s.gear o snr time

  abbrev top : ℕ
  top = h_max p.codes

  abbrev keep : Bool
  keep = keeps p s.gear stored

  abbrev next : Outcome → ℕ → Sender
  next o w = with_link (with_gear s (judged o)) (with_wave s.link w)

  abbrev wave : ℕ
  wave = wave_rank s.gear.level

  abbrev counted : (o : Outcome) (w : ℕ) → Counted (next o w) a
  counted o w = record { area = c.area; held = c.held; rest = c.rest; sent = c.sent; pieces = c.pieces; flying = c.flying; stream = c.stream }

  abbrev arrays : (o : Outcome) (w : ℕ) → Arrays (next o w)
  arrays o w = record { held_off = ar.held_off; held_bits = ar.held_bits; sent_off = ar.sent_off; sent_bits = ar.sent_bits; sent_held = ar.sent_held }

  settled-next : (o : Outcome) (w : ℕ) → settled m top keep (next o w) a ≡ (store (settle_burst top r keep before) (next o w), store_area (settle_burst top r keep before) a)
  unfolding view
  settled-next o w = S.settles z m top keep r (next o w) a so (counted o w) (arrays o w) bits

  -- the record and the work area that hold l
  abbrev held : L.Sender → Sender → Sender × List ℕ
  held l q = (store l q, store_area l a)

  abbrev o : Outcome
  o = outcome_of r before

  said : outcome_in m matched last ≡ o
  said = outcome-is m r s a ar c.sent bits

  abbrev tested : Bool
  tested = matched && ltb 0 last.n

  tested-is : settles r before ≡ tested
  unfolding view
  tested-is = ap (λ (n : ℕ). matched && ltb 0 n) (length-sent m r s a ar c.sent bits)

  after-yes : tested ≡ true → L.hear_ack top r keep before ≡ settle_burst top r keep before
  unfolding view L.hear_ack
  after-yes e = rw (aw, tested-is ∙ e) refl

  after-no : tested ≡ false → L.hear_ack top r keep before ≡ clear_burst before
  unfolding view L.hear_ack
  after-no e = rw (aw, tested-is ∙ e) refl

  ack-is : (t : Bool) → tested ≡ t → (l : L.Sender) → L.hear_ack top r keep before ≡ l → ack_in p r stored snr time s a ≡ held l (next o (cond t wave s.link.peer_wave))
  unfolding ack_in
  ack-is t e l f = ap₂ (λ (b : Bool) (x : L.Sender). held x (next o (cond b wave s.link.peer_wave))) (tested-is ∙ e) f

  pub acked-is : acked_by p r.number m stored snr time s a ≡ ack_in p r stored snr time s a
  unfolding acked_by
  acked-is =
      test tested
      (λ e. ap (λ (t : Bool). cond t (settled m top keep (next (outcome_in m matched last) wave) a) (without_burst (with_gear s (judged (outcome_in m matched last))), a)) e
      ∙ settled-next (outcome_in m matched last) wave ∙ ap (λ (x : Outcome). held (settle_burst top r keep before) (next x wave)) said
      ∙ sym (ack-is true e (settle_burst top r keep before) (after-yes e)))
      (λ e. ap (λ (t : Bool). cond t (settled m top keep (next (outcome_in m matched last) wave) a) (without_burst (with_gear s (judged (outcome_in m matched last))), a)) e
      ∙ cleared s a c ar by (judged (outcome_in m matched last)) s.link refl ∙ ap (λ (x : Outcome). held (clear_burst before) (next x s.link.peer_wave)) said
      ∙ sym (ack-is false e (clear_burst before) (after-no e)))
