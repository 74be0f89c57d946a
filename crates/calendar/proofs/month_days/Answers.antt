-- `calendar::month_days` meets its contract. Assumes nothing.
use Rattle.laws.proofs.Picks.{calls}
use Rattle.calendar.specs.Calendar.{month_days}
use Rattle.calendar.proofs.Steps.{thirty, longer}
use Rattle.calendar.proofs.month_days.Goals as goal

pub returns-then-leap : goal.returns-then-leap
unfolding month_days
returns-then-leap c = search calls

pub returns-else-leap : goal.returns-else-leap
unfolding month_days
returns-else-leap c = search calls

pub returns-in-4 : goal.returns-in-4
returns-in-4 c = thirty _ _ c.in-4.is

pub returns-in_default : goal.returns-in_default
returns-in_default c = longer _ _ c.in_default.in_default-own.rest.0.1 c.in_default.in_default-own.rest.1
