use Rattle.laws.specs.Tests.{all}
use Rattle.config.specs.Ranges.{holds_ok}
use lib.Ieee.{of_int, of_bits}
use Rattle.config.proofs.ranges.holds_ok.Goals as goal

pub returns : goal.returns
unfolding all holds_ok of_int of_bits
returns c = simp (c.within-3.ensures, c.within-2.ensures, c.within.ensures)
