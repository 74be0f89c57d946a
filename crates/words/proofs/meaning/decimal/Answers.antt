-- `meaning::decimal`: digits, at least one. Assumes nothing.
use Rattle.std.proofs.Common.{arith}
use Rattle.std.proofs.lemmas.Bool.Decides.{nat_tests}
use Rattle.words.specs.Words.{decimal_of}
use Rattle.words.proofs.meaning.decimal.Goals as goal

pub returns-then-is_empty : goal.returns-then-is_empty
unfolding decimal_of
returns-then-is_empty c = grind (arith, nat_tests)

pub returns : goal.returns
unfolding decimal_of
returns c = grind (arith, nat_tests)
