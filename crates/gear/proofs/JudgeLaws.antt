-- What a transition leaves of the level and the target. Assumes nothing.
use Rattle.std.proofs.Common.{◌≡◌, ℕ, ◌<◌, refl, arith}
use lib.Ieee.{Float, lt}
use Rattle.float.specs.Gear.{loss_to_step_down, whole_loss}
use Rattle.laws.proofs.Picks.{either}
use Rattle.config.specs.declared.Profile.{Profile}
use Rattle.config.specs.Ranged.{Ranged}
use Rattle.gear.specs.declared.Gear.{Gear}
use Rattle.gear.specs.Judging.{aimed, held}
use Rattle.levels.proofs.usable.Laws.{level-for-lt}

pub aimed-level : (p : Profile) (g : Gear) (snr : Float) → (aimed p g snr).level ≡ g.level
unfolding aimed
aimed-level p g snr = refl

pub aimed-target : (p : Profile) (g : Gear) (snr : Float) → Ranged p → (aimed p g snr).target < 17
unfolding aimed
aimed-target p g snr k = level-for-lt _ _ _ _ _ (omega (arith, k.top))

pub held-target : (p : Profile) (at : ℕ) (loss snr now : Float) (g : Gear) → (held p at loss snr now g).target ≡ g.target
unfolding held
held-target p at loss snr now g = let Q : Gear → Type 0 = λ x. x.target ≡ g.target in either Q (lt whole_loss loss) _ _ refl (either Q (lt loss_to_step_down loss) _ _ refl refl)
