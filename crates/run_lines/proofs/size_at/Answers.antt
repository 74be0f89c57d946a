-- `size_at`: by the level. Assumes nothing.
use Rattle.laws.proofs.Picks.{picks}
use Rattle.run_lines.specs.RunLines.{size_at}
use Rattle.run_lines.proofs.size_at.Goals as goal

pub returns-then-level-le4 : goal.returns-then-level-le4
unfolding size_at
returns-then-level-le4 c = search picks

pub returns : goal.returns
unfolding size_at
returns c = search picks
