use Rattle.levels.proofs.usable.Laws.{step-down-lt, usable-below-lt}
use Rattle.gear.specs.Judging.{worth_keeping}
use Rattle.gear.proofs.Gear.worth_keeping.Goals as goal

pub usable_below-lower-requires : goal.usable_below-lower-requires
usable_below-lower-requires c = rw c.step_down.ensures (step-down-lt _ _ _ c.requires.fact_1)

pub cue_for-requires-2 : goal.cue_for-requires-2
cue_for-requires-2 c = let s = c in rw (c.usable_below-lower.ensures, c.step_down.ensures) (usable-below-lt _ _ _ _ _ s.requires.fact_2.pin (step-down-lt _ _ _ s.requires.fact_1))

pub level_rate-there-requires : goal.level_rate-there-requires
level_rate-there-requires c = let s = c in record {
  fact_1 = rw (c.usable_below-lower.ensures, c.step_down.ensures) (usable-below-lt _ _ _ _ _ s.requires.fact_2.pin (step-down-lt _ _ _ s.requires.fact_1));
  fact_2 = s.requires.fact_2;
}

pub returns : goal.returns
unfolding worth_keeping
returns c = simp (c.level_rate-there.ensures, c.cue_for-2.ensures, c.level_rate.ensures, c.cue_for.ensures, c.f32_to_f64_with_nan.ensures, c.share.ensures, c.usable_below-lower.ensures, c.step_down.ensures, c.heeded-class.ensures)
