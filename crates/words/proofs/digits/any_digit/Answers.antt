-- `digits::any_digit`: by its range. Assumes nothing.
use Rattle.std.proofs.Common.{arith}
use Rattle.std.proofs.lemmas.Bool.Decides.{nat_tests}
use Rattle.words.specs.Words.{any_digit}
use Rattle.words.proofs.digits.any_digit.Goals as goal

pub returns-in-65-to-70 : goal.returns-in-65-to-70
unfolding any_digit
returns-in-65-to-70 c = grind (arith, nat_tests)

pub returns-in_default : goal.returns-in_default
unfolding any_digit
returns-in_default c = grind (arith, nat_tests)
