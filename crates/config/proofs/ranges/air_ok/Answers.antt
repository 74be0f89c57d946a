use Rattle.laws.specs.Tests.{all}
use Rattle.config.specs.Ranges.{air_ok}
use lib.Ieee.{of_int, of_bits}
use Rattle.config.proofs.ranges.air_ok.Goals as goal

pub returns : goal.returns
unfolding all air_ok of_int of_bits
returns c = simp (c.within.ensures, c.acks_ok.ensures, c.levels_of_air_ok.ensures)
