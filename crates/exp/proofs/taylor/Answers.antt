-- `exp::taylor` meets its contract: the body is `horner`, with each number by its bits. Assumes nothing.
use Rattle.std.proofs.Common.{refl}
use lib.Ieee.{of_int, of_bits}
use Rattle.exp.specs.Exp.{horner}
use Rattle.exp.proofs.taylor.Goals as goal

pub returns : goal.returns
unfolding horner of_int of_bits
returns c = refl
