-- `is_load`: by its parts. Assumes nothing.
use Rattle.run_lines.specs.RunLines.{is_load}
use Rattle.run_lines.proofs.is_load.Goals as goal

pub word-r-requires : goal.word-r-requires
word-r-requires c = tt

pub returns : goal.returns
unfolding is_load
returns c = rw (← c.word-r.ensures)
