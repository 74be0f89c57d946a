-- `slot` meets its contract.
use Rattle.laws.proofs.Picks.{picks}
use Rattle.report.proofs.slot.Goals as goal

pub returns-then-s-eq3 : goal.returns-then-s-eq3
returns-then-s-eq3 c = search picks

pub returns-else-s-eq3 : goal.returns-else-s-eq3
returns-else-s-eq3 c = search picks
