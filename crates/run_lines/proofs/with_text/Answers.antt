-- `with_text`: its two fields set. Assumes nothing.
use mathlib.Core.Path.{refl}
use Rattle.run_lines.specs.RunLines.{wrote_to}
use Rattle.run_lines.proofs.with_text.Goals as goal

pub returns : goal.returns
unfolding wrote_to
returns c = refl
