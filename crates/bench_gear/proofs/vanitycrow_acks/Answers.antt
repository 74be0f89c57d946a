-- `vanitycrow_acks` meets its contract. The loop's invariant: i acks are judged.
use Prim.Native.Nat.{ℕ, ◌≤◌}
use mathlib.Core.Path.{◌≡◌, refl, subst, sym, ap, ◌∙◌}
use native.Mathlib.Omega.{arith}
use lib.Ieee.{Float}
use Rattle.laws.specs.Steps.{steps}
use Rattle.laws.proofs.Steps.{steps-none, steps-more}
use Rattle.config.specs.declared.Profile.{Profile}
use Rattle.defaults.specs.Default.{new_profile}
use Rattle.config.specs.Ranged.{Ranged}
use Rattle.config.proofs.ranges.Ranged.{ranged}
use Rattle.defaults.proofs.Accepted.{default-in-range}
use Rattle.gear.specs.declared.Gear.{Gear}
use Rattle.gear.specs.declared.Outcome.{Outcome}
use Rattle.gear.specs.Judging.{on_ack}
use Rattle.gear_laws.proofs.LevelLaws.{on-ack-low}
use Rattle.bench_gear.specs.Acks.{tried, nine, acks}
use Rattle.bench_gear.proofs.vanitycrow_acks.Invariants.{next}
use Rattle.bench_gear.proofs.vanitycrow_acks.Goals as goal

next-is : (p : Profile) (o : Outcome) (snr now : Float) (i : ℕ) (g x : Gear) → p ≡ new_profile → o ≡ nine → x ≡ on_ack p g o snr now → x ≡ next snr now i g
next-is p o snr now i g x e q r = r ∙ ap (λ (y : Profile). on_ack y g o snr now) e ∙ ap (λ (y : Outcome). on_ack new_profile g y snr now) q

next_low : (snr now : Float) (i : ℕ) (g x : Gear) → g.level ≤ 16 → x ≡ next snr now i g → x.level ≤ 16
next_low snr now i g x h e = subst (λ (y : Gear). y.level ≤ 16) (sym e) (on-ack-low new_profile g nine snr now h)

pub loop-i-init : goal.loop-i-init
loop-i-init c = let e = c.tried-g.ensures in (e ∙ steps-none _ _, subst (λ (y : Gear). y.level ≤ 16) (sym e) (omega arith), c.new_profile-cfg.ensures, refl)

pub on_ack-g-requires : goal.on_ack-g-requires
on_ack-g-requires c = let i = c.loop-i.invariant in record {
  fact_1 = omega (arith, i.1);
  fact_2 = subst Ranged (sym i.2) (ranged new_profile default-in-range);
}

pub loop-i-preserved : goal.loop-i-preserved
loop-i-preserved c = let i = c.loop-i.invariant in let e = next-is _ _ _ _ c.loop-i._i _ _ i.2 i.3 c.on_ack-g.ensures in (steps-more _ _ _ _ _ i.0 e, next_low _ _ c.loop-i._i _ _ i.1 e, i.2, i.3)

pub returns : goal.returns
unfolding acks
returns c =
    let l = c.loop-i in
    let a = c.args in
    let e : l._i ≡ a.n = omega arith in
    ap (λ (g : Gear). g.level) l.invariant.0 ∙ ap (λ (k : ℕ). (steps (next a.snr_db a.now) k tried).level) e
