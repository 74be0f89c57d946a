-- Each decision names a level of the ladder. Assumes nothing.
use Rattle.std.proofs.Common.{◌≡◌, ℕ, ◌+◌, ◌<◌, ◌≤◌, max, Bool, true, false, cond, ◌&&◌, refl, arith}
use lib.Ieee.{Float}
use Rattle.laws.specs.Steps.{highest}
use Rattle.laws.proofs.Steps.{highest-lt}
use Rattle.laws.proofs.Picks.{either}
use Rattle.laws.proofs.Span.{first-lt, last-lt}
use Rattle.level.specs.Ladder.{long_frame}
use Rattle.config.specs.declared.Marks.{Marks}
use Rattle.config.specs.declared.MaybeLevel.{MaybeLevel}
use Rattle.report.specs.declared.ChanClass.{ChanClass}
use Rattle.levels.specs.declared.usable.Holds.{Holds}
use Rattle.levels.specs.Usable.{family_ok, enough, level_for, usable, usable_below, climbs, climb_above, allowed_below, nth_below, lowest_long, step_down}

pub allowed-lt : (c : ChanClass) (at : ℕ) → at < 17 → allowed_below c at < 17
unfolding allowed_below
allowed-lt c at h = highest-lt (family_ok c) at 0 17 (omega arith) (omega arith)

pub level-for-lt : (m : Marks) (power : ℕ) (c : ChanClass) (top : ℕ) (db : Float) → top < 17 → level_for m power c top db < 17
unfolding level_for
level-for-lt m power c top db h = highest-lt (λ l. enough m power c l db) (top + 1) 0 17 (omega arith) (omega arith)

-- `usable_below` names the pinned level, and without one a level at or below l
pub usable-below-pin : (h : Holds) (c : ChanClass) (pin : MaybeLevel) (l : ℕ) (now : Float) → pin.set ≡ true → usable_below h c pin l now ≡ pin.level
unfolding usable_below
usable-below-pin h c pin l now e = rw e refl

pub usable-below-le : (h : Holds) (c : ChanClass) (pin : MaybeLevel) (l : ℕ) (now : Float) → pin.set ≡ false → usable_below h c pin l now ≤ l
unfolding usable_below
usable-below-le h c pin l now e = let k = highest-lt (usable h c now) (l + 1) 0 (l + 1) (omega arith) (omega arith) in rw e (omega (arith, k))

pub usable-below-lt : (h : Holds) (c : ChanClass) (pin : MaybeLevel) (l : ℕ) (now : Float) → (pin.set ≡ true → pin.level ≤ 16) → l < 17 → usable_below h c pin l now < 17
unfolding usable_below
usable-below-lt h c pin l now p q = go pin.set p
  where
    go : (b : Bool) → (b ≡ true → pin.level ≤ 16) → cond b pin.level (highest (usable h c now) (l + 1) 0) < 17
    go true f = omega (arith, f refl)
    go false f = highest-lt (usable h c now) (l + 1) 0 17 (omega arith) (omega arith)

nth-lt : (c : ChanClass) (at : ℕ) (second : Bool) → at < 17 → nth_below c at second < 17
unfolding nth_below
nth-lt c at second h = either (λ (x : ℕ). x < 17) second (allowed_below c (allowed_below c at)) (allowed_below c at) (allowed-lt c (allowed_below c at) (allowed-lt c at h)) (allowed-lt c at h)

lowest-lt : (c : ChanClass) (at : ℕ) → at < 17 → lowest_long c at < 17
unfolding lowest_long
lowest-lt c at h = first-lt (λ l. family_ok c l && long_frame l) 0 at 17 (omega arith) (omega arith)

pub step-down-lt : (c : ChanClass) (at : ℕ) (second : Bool) → at < 17 → step_down c at second < 17
unfolding step_down
step-down-lt c at second h =
    either (λ (x : ℕ). x < 17) (long_frame at) (max (nth_below c at second) (lowest_long c at)) (nth_below c at second) (omega (arith, nth-lt c at second h, lowest-lt c at h)) (nth-lt c at second h)

pub climb-lt : (h : Holds) (c : ChanClass) (skip : Bool) (at n : ℕ) (now : Float) → at < 17 → climb_above h c skip at n now < 17
unfolding climb_above
climb-lt h c skip at n now k = last-lt (climbs h c skip now) n at (at + 1) 17 (omega arith) k
