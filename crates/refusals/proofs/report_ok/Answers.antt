-- `refusals::report_ok` meets its contract.
use lib.Ieee.{of_int, of_bits, neg}
use Rattle.refusals.specs.Refusals.{report_ok}
use borrow.Author.Rules.{rules}
use Rattle.ieee.specs.Range.{inside}
use Rattle.refusals.proofs.report_ok.Goals as goal

pub returns : goal.returns
unfolding inside report_ok of_int of_bits neg
returns c = search rules
