use Rattle.gear.specs.Judging.{aimed}
use Rattle.gear.proofs.Gear.aim.Goals as goal

pub returns : goal.returns
unfolding aimed
returns c = simp (c.level_for-target.ensures, c.heeded.ensures, c.marks.ensures, c.aim-aim.ensures, c.push-reports.ensures, c.air_db.ensures)
