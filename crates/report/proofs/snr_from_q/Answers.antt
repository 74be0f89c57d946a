-- `snr_from_q` meets its contract.
use mathlib.Core.Path.{refl}
use lib.Ieee.{of_bits, of_int}
use Rattle.report.specs.Report.{snr_from_q}
use Rattle.report.proofs.snr_from_q.Goals as goal

pub returns : goal.returns
unfolding snr_from_q of_bits of_int
returns c = refl
