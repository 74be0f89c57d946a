use Rattle.levels.proofs.usable.Laws.{climb-lt}
use Rattle.gear.specs.Judging.{climbed}
use Rattle.gear.proofs.Gear.climb.Goals as goal

pub spotless-requires : goal.spotless-requires
spotless-requires c = rw c.climb_above-far.ensures (climb-lt _ _ _ _ _ _ c.requires.fact_1)

pub returns-then-gap-spotless : goal.returns-then-gap-spotless
unfolding climbed
returns-then-gap-spotless c = simp (rw (c.spotless.ensures, c.climb_above-far.ensures, c.max.ensures, c.climb_above-one.ensures, c.is_step.ensures, c.heeded-class.ensures) at c.if-gap-spotless.true, c.climb_above-far.ensures, c.max.ensures, c.is_step.ensures, c.heeded-class.ensures)

pub returns-else-gap-spotless : goal.returns-else-gap-spotless
unfolding climbed
returns-else-gap-spotless c = simp (rw (c.spotless.ensures, c.climb_above-far.ensures, c.max.ensures, c.climb_above-one.ensures, c.is_step.ensures, c.heeded-class.ensures) at c.if-gap-spotless.false, c.climb_above-one.ensures, c.is_step.ensures, c.heeded-class.ensures)
