use Rattle.levels.specs.Usable.{air_db}
use Rattle.laws.proofs.Picks.{calls}
use Rattle.levels.proofs.usable.air_db.Goals as goal

pub returns-in-1 : goal.returns-in-1
unfolding air_db
returns-in-1 c = search calls

pub returns-in-2 : goal.returns-in-2
unfolding air_db
returns-in-2 c = search calls

pub returns-in_default : goal.returns-in_default
unfolding air_db
returns-in_default c = search calls
