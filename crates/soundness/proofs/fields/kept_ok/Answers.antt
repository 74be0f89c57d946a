use Rattle.soundness.specs.Soundness.{kept_ok}
use Rattle.ieee.specs.Range.{inside}
use lib.Ieee.{of_int, of_bits, neg}
use borrow.Author.Rules.{rules}
use Rattle.soundness.proofs.fields.kept_ok.Goals as goal

pub returns : goal.returns
unfolding kept_ok inside of_int of_bits neg
returns c = search rules
