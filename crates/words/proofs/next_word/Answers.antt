-- `next_word`: each way to have none, and where it ends. Assumes nothing.
use Rattle.std.proofs.Common.{arith}
use Rattle.std.proofs.lemmas.Bool.Decides.{nat_tests}
use Rattle.words.specs.Lines.{next_word}
use Rattle.words.proofs.next_word.Goals as goal

pub returns-then-not-r : goal.returns-then-not-r
unfolding next_word
returns-then-not-r c = grind (arith, nat_tests)

pub returns-then-line-at-ne32 : goal.returns-then-line-at-ne32
unfolding next_word
returns-then-line-at-ne32 c = grind (arith, nat_tests)

pub returns : goal.returns
unfolding next_word
returns c = grind (arith, nat_tests)
