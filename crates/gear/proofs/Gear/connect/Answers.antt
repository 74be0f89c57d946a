use Rattle.gear.specs.OtherReplies.{connected}
use Rattle.gear.proofs.Gear.connect.Goals as goal

pub returns : goal.returns
unfolding connected
returns c = simp (c.start_level.ensures, c.level_for-target.ensures, c.heeded.ensures, c.marks.ensures, c.air_db.ensures)
