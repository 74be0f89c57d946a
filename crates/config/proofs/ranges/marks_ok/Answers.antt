use Rattle.laws.specs.Tests.{all}
use Rattle.config.specs.Ranges.{marks_ok}
use Rattle.config.proofs.ranges.marks_ok.Goals as goal

pub returns : goal.returns
unfolding all marks_ok
returns c = simp (c.db_ok.ensures, c.thresholds_ok.ensures)
