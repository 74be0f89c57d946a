-- `meaning::flag`: its one character. Assumes nothing.
use Rattle.std.proofs.Common.{arith}
use Rattle.std.proofs.lemmas.Bool.Decides.{nat_tests}
use Rattle.words.specs.Words.{flag_of}
use Rattle.words.proofs.meaning.flag.Goals as goal

pub returns-then-w-ne1 : goal.returns-then-w-ne1
unfolding flag_of
returns-then-w-ne1 c = grind (arith, nat_tests)

pub returns-in-48 : goal.returns-in-48
unfolding flag_of
returns-in-48 c = grind (arith, nat_tests)

pub returns-in-49 : goal.returns-in-49
unfolding flag_of
returns-in-49 c = grind (arith, nat_tests)

pub returns-in_default : goal.returns-in_default
unfolding flag_of
returns-in_default c = grind (arith, nat_tests)
