use Rattle.laws.specs.Tests.{all}
use Rattle.soundness.specs.Soundness.{gear_ok}
use Rattle.ieee.specs.Range.{inside}
use lib.Ieee.{of_int, of_bits}
use Rattle.soundness.proofs.fields.gear_ok.Goals as goal

pub returns : goal.returns
unfolding all gear_ok inside of_int of_bits
returns c =
    simp (c.kept_if_ok.ensures, c.kept_if_ok-2.ensures, c.reports_ok.ensures, c.levels_ok.ensures)
