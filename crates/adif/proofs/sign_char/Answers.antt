-- `adif::sign_char` meets its contract. Assumes nothing.
use native.Mathlib.Omega.{arith}
use Rattle.std.proofs.lemmas.Bool.Decides.{nat_tests}
use Rattle.adif.specs.Adif.{sign_char}
use Rattle.adif.proofs.sign_char.Goals as goal

pub returns-in-47 : goal.returns-in-47
unfolding sign_char
returns-in-47 c = grind (arith, nat_tests)

pub returns-in-47-2 : goal.returns-in-47-2
unfolding sign_char
returns-in-47-2 c = grind (arith, nat_tests)

pub returns-in_default : goal.returns-in_default
unfolding sign_char
returns-in_default c = grind (arith, nat_tests)

pub returns-in_default-2 : goal.returns-in_default-2
unfolding sign_char
returns-in_default-2 c = grind (arith, nat_tests)

pub returns-in_default-3 : goal.returns-in_default-3
unfolding sign_char
returns-in_default-3 c = grind (arith, nat_tests)
