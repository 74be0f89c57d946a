use Rattle.laws.specs.Tests.{all}
use lib.Ieee.{of_int, of_bits}
use Rattle.config.proofs.ranges.level_ok.Goals as goal

pub returns : goal.returns
unfolding all of_int of_bits
returns c = simp (c.within-2.ensures, c.within.ensures, c.from_to.ensures)
