use Rattle.config.specs.Ranges.{db_ok}
use lib.Ieee.{of_int, of_bits, neg}
use borrow.Author.Rules.{rules}
use Rattle.ieee.specs.Range.{inside}
use Rattle.config.proofs.ranges.db_ok.Goals as goal

pub returns : goal.returns
unfolding db_ok inside of_int of_bits neg
returns c = search rules
