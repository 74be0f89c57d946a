-- `digits::shifted`: a digit, and a number that fits. Assumes nothing.
use Rattle.std.proofs.Common.{arith}
use Rattle.std.proofs.lemmas.Bool.Decides.{nat_tests}
use Rattle.words.specs.Words.{one_digit_more}
use Rattle.words.proofs.digits.shifted.Goals as goal

pub returns-then-d-base : goal.returns-then-d-base
unfolding one_digit_more
returns-then-d-base c = grind (arith, nat_tests)

pub returns-in_err-checked_mul : goal.returns-in_err-checked_mul
unfolding one_digit_more
returns-in_err-checked_mul c = grind (arith, nat_tests)

pub returns : goal.returns
unfolding one_digit_more
returns c = grind (arith, nat_tests)
