use Rattle.gear.specs.Goodput.{marks_of}
use Rattle.laws.proofs.Picks.{picks}
use Rattle.gear.proofs.goodput.marks.Goals as goal

pub returns-then-cfg : goal.returns-then-cfg
unfolding marks_of
returns-then-cfg c = search picks

pub returns-else-cfg : goal.returns-else-cfg
unfolding marks_of
returns-else-cfg c = search picks
