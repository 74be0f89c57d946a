-- `reading::options_ok`: the two ways of the version. Assumes nothing.
use Rattle.laws.proofs.Picks.{picks}
use Rattle.card.proofs.reading.options_ok.Goals as goal

pub returns-then-version-eq1 : goal.returns-then-version-eq1
returns-then-version-eq1 c = search picks

pub returns : goal.returns
returns c = search picks
