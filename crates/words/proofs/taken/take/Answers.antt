-- `taken::take`: each kind of character. Assumes nothing.
use Rattle.std.proofs.Common.{arith}
use Rattle.std.proofs.lemmas.Bool.Decides.{nat_tests}
use Rattle.words.specs.Lines.{one_taken, line_taken}
use Rattle.words.proofs.taken.take.Goals as goal

pub returns-then-at-i : goal.returns-then-at-i
unfolding one_taken line_taken
returns-then-at-i c = grind (arith, nat_tests)

pub returns-then-c-eq10 : goal.returns-then-c-eq10
unfolding one_taken line_taken
returns-then-c-eq10 c = grind (arith, nat_tests)

pub returns-then-c-ge128 : goal.returns-then-c-ge128
unfolding one_taken line_taken
returns-then-c-ge128 c = grind (arith, nat_tests)

pub returns : goal.returns
unfolding one_taken line_taken
returns c = grind (arith, nat_tests)
