use Rattle.levels.specs.Usable.{climbs}
use Rattle.levels.proofs.usable.Holds.climbs.Goals as goal

pub returns : goal.returns
unfolding climbs
returns c = simp (c.is_step.ensures, c.usable.ensures)
