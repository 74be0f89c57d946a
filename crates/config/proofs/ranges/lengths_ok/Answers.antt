use Rattle.laws.specs.Tests.{all}
use Rattle.config.specs.Ranges.{lengths_ok}
use lib.Ieee.{of_int, of_bits}
use Rattle.config.proofs.ranges.lengths_ok.Goals as goal

pub returns : goal.returns
unfolding all lengths_ok of_int of_bits
returns c = simp (c.within-4.ensures, c.within-3.ensures, c.within-2.ensures, c.maybe_db_ok.ensures, c.db_ok.ensures, c.within.ensures)
