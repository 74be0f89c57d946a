-- An awaited ack, put together.
-- Assumes nothing.
use mathlib.Core.Path.{◌≡◌, ap, ap₂, ◌∙◌}
use mathlib.Core.List.{List}
use mathlib.Core.Bool.{Bool, true, false, ◌&&◌}
use Prim.Native.Nat.{ℕ}
use lib.Dec.{eqb, ltb}
use lib.Ieee.{Float}
use Rattle.laws.proofs.Picks.{cond_yes, cond_no}
use Rattle.level.specs.Ladder.{wave_rank, long_frame}
use Rattle.harq.specs.Held.{h_max}
use Rattle.config.specs.declared.Profile.{Profile}
use Rattle.gear.specs.declared.Gear.{Gear}
use Rattle.gear.specs.Judging.{on_ack}
use Rattle.gear.specs.declared.Outcome.{Outcome}
use Rattle.record.specs.declared.Sender.{Sender}
use Rattle.settle.specs.Settle.{settled}
use Rattle.settle.specs.AckIn.{keeps}
use Rattle.record.specs.Setters.{with_gear, with_link, with_wave}
use Rattle.settle.specs.AckInCode.{without_burst, acked_by}
use Rattle.settle.specs.OutcomesCode.{outcome_in}

module _ (p : Profile) (burst m : ℕ) (stored : Bool) (snr time : Float) (s : Sender) (a : List ℕ) where
  abbrev matched : Bool
  matched = eqb burst s.link.burst_id

  abbrev judged : Gear
  judged = on_ack p s.gear (outcome_in m matched s.last_burst) snr time

  -- the record that is settled
  abbrev ready : Gear → ℕ → Sender
  ready g w = with_link (with_gear s g) (with_wave s.link w)

  gear-is : (o : Outcome) (g : Gear) → o ≡ outcome_in m matched s.last_burst → g ≡ on_ack p s.gear o snr time → g ≡ judged
  gear-is o g e f = f ∙ ap (λ (x : Outcome). on_ack p s.gear x snr time) e

  pub acked-settles : (o : Outcome) (g : Gear) (w top : ℕ) (long : Bool) (q : Sender) (b : List ℕ) → o ≡ outcome_in m matched s.last_burst
      → g ≡ on_ack p s.gear o snr time → w ≡ wave_rank s.gear.level → top ≡ h_max p.codes → long ≡ long_frame s.gear.level
      → (q, b) ≡ settled m top (stored && (p.harq && long)) (ready g w) a → (matched && ltb 0 s.last_burst.n) ≡ true
      → (q, b) ≡ acked_by p burst m stored snr time s a
  unfolding acked_by
  acked-settles o g w top long q b e₁ e₂ e₃ e₄ e₅ e₆ t =
      cond_yes _ _ _ _ t
      (e₆ ∙ ap₂ (λ (x : ℕ) (y : Bool). settled m x (stored && (p.harq && y)) (ready g w) a) e₄ e₅
      ∙ ap₂ (λ (x : Gear) (y : ℕ). settled m (h_max p.codes) (keeps p s.gear stored) (ready x y) a) (gear-is o g e₁ e₂) e₃)

  pub acked-clears : (o : Outcome) (g : Gear) (q : Sender) → o ≡ outcome_in m matched s.last_burst → g ≡ on_ack p s.gear o snr time
      → q ≡ without_burst (with_gear s g) → (matched && ltb 0 s.last_burst.n) ≡ false → (q, a) ≡ acked_by p burst m stored snr time s a
  unfolding acked_by
  acked-clears o g q e₁ e₂ e₃ t = cond_no _ _ _ _ t (ap (λ (x : Sender). (x, a)) (e₃ ∙ ap (λ (x : Gear). without_burst (with_gear s x)) (gear-is o g e₁ e₂)))
