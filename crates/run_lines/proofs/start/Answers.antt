-- `start`: the fields set, and zeros. Assumes nothing.
use mathlib.Core.Path.{refl}
use Rattle.run_lines.specs.RunLines.{started}
use Rattle.run_lines.proofs.start.Goals as goal

pub clear-requires : goal.clear-requires
clear-requires c = tt

pub returns : goal.returns
unfolding started
returns c = record {
  value = refl;
  area_after = c.clear.ensures;
}
