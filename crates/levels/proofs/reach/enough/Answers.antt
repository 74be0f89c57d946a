use Rattle.levels.specs.Usable.{enough}
use Rattle.levels.proofs.reach.enough.Goals as goal

pub returns : goal.returns
unfolding enough
returns c = simp (c.entry.ensures, c.air_db.ensures, c.family_ok.ensures)
