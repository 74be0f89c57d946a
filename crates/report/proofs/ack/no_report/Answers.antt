-- `ChanReport::none` meets its contract.
use mathlib.Core.Path.{refl}
use lib.Ieee.{of_bits, div}
use Rattle.report.proofs.ack.no_report.Goals as goal

pub returns : goal.returns
unfolding of_bits div
returns c = refl
