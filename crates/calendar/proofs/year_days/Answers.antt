-- `calendar::year_days` meets its contract. Assumes nothing.
use Rattle.laws.proofs.Picks.{calls}
use Rattle.calendar.specs.Calendar.{year_days}
use Rattle.calendar.proofs.year_days.Goals as goal

pub returns-then-leap : goal.returns-then-leap
unfolding year_days
returns-then-leap c = search calls

pub returns-else-leap : goal.returns-else-leap
unfolding year_days
returns-else-leap c = search calls
