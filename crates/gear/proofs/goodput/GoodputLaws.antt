-- `view_best` is `best_of`, and `max_by` names a level of the ladder. Assumes nothing.
use Rattle.std.proofs.Common.{◌≡◌, ℕ, ◌+◌, ◌<◌, ◌≤◌, false, not, Option, Some, None, IfSome, option_map, unwrap_or, refl, arith}
use lib.Ieee.{Float, inf}
use Rattle.float.specs.Total.{total_le}
use Rattle.laws.proofs.Picks.{either}
use Rattle.laws.proofs.Span.{fold-keep}
use Rattle.levels.specs.Usable.{heeded}
use Rattle.levels.proofs.usable.Laws.{usable-below-lt, usable-below-le}
use Rattle.config.specs.Ranged.{Ranged}
use Rattle.config.specs.declared.Profile.{Profile}
use Rattle.config.specs.Entries.{entry_at}
use Rattle.gear.specs.declared.Gear.{Gear}
use Rattle.gear.specs.declared.goodput.Best.{Best}
use Rattle.gear.specs.Goodput.{chance_of, cue_for, room_of, in_reach, score_of, candidate, worth_of, over, weighed, best_of, pick_by_goodput}
use Rattle.gear.specs.Levels.{view_of, view_best, seen_chance, sight_room, sight_reach, view_worth, view_candidate, view_weighed}

-- what is said of a level on its numbers is what is said of it on the profile and the gear
pub view-best : (p : Profile) (g : Gear) (aim now : Float) → view_best p (view_of p g now) g.tries aim ≡ best_of p g aim now
unfolding view_weighed weighed view_candidate candidate view_worth worth_of score_of seen_chance chance_of sight_room room_of sight_reach in_reach entry_at cue_for
view-best p g aim now = refl

-- what holds of the level that is found and used, and of the floor, holds of what is picked
pub found-or-floor : (P : ℕ → Type 0) (Q : Best → Type 0) (o : Option Best) (f : Best → ℕ) → IfSome o Q → ((b : Best) → Q b → P (f b)) → P 0 → P (unwrap_or (option_map f o) 0)
found-or-floor P Q None f h k z = z
found-or-floor P Q (Some b) f h k z = k b h

-- the level that was found, if one was, is below n
abbrev pub Below : ℕ → Option Best → Type 0
Below n o = IfSome o (λ b. b.level < n)

weighed-lt : (n : ℕ) (p : Profile) (g : Gear) (aim now : Float) (o : Option Best) (l : ℕ) → Below n o → l < n → Below n (weighed p g aim now o l)
unfolding weighed over
weighed-lt n p g aim now None l h k = either (Below n) (candidate p g aim l) (Some (record { level = l; worth = worth_of p g aim now l })) None k tt
weighed-lt n p g aim now (Some b) l h k =
    let w = worth_of p g aim now l in
    either (Below n) (candidate p g aim l) (over (Some b) l w) (Some b) (either (Below n) (not (total_le b.worth w)) (Some b) (Some (record { level = l; worth = w })) h k) h

pub best-lt : (n : ℕ) (p : Profile) (g : Gear) (aim now : Float) → p.max_level < n → Below n (best_of p g aim now)
best-lt n p g aim now h = fold-keep (Below n) (weighed p g aim now) None 0 (p.max_level + 1) (λ l x i q. weighed-lt n p g aim now x l q (omega (arith, i, h))) tt

-- the level picked is one of the ladder, and without a pinned level none above max_level
pub pick-lt : (p : Profile) (g : Gear) (aim now : Float) → Ranged p → pick_by_goodput p g aim now < 17
unfolding pick_by_goodput
pick-lt p g aim now k =
    found-or-floor (λ (x : ℕ). x < 17) (λ b. b.level < 17) (best_of p g aim now) _ (best-lt 17 p g aim now (omega (arith, k.top)))
    (λ b h. usable-below-lt g.holds (heeded p.pick_family g.peer_class) p.pin_level b.level (inf false) k.pin h) (omega arith)

pub pick-le : (p : Profile) (g : Gear) (aim now : Float) → p.pin_level.set ≡ false → pick_by_goodput p g aim now ≤ p.max_level
unfolding pick_by_goodput
pick-le p g aim now e =
    found-or-floor (λ (x : ℕ). x ≤ p.max_level) (λ b. b.level < p.max_level + 1) (best_of p g aim now) _ (best-lt (p.max_level + 1) p g aim now (omega arith))
    (λ b h. omega (arith, h, usable-below-le g.holds (heeded p.pick_family g.peer_class) p.pin_level b.level (inf false) e)) (omega arith)
