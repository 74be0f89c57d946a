use Rattle.laws.specs.Tests.{all}
use Rattle.config.specs.Ranges.{in_range}
use Rattle.config.proofs.ranges.in_range.Goals as goal

pub returns : goal.returns
unfolding all in_range
returns c = simp (c.holds_ok.ensures, c.lengths_ok.ensures, c.harq_ok.ensures, c.air_ok.ensures, c.marks_ok-2.ensures, c.marks_ok.ensures, c.sizes_ok.ensures, c.levels_ok.ensures, c.maybe_db_ok.ensures, c.db_ok.ensures)
