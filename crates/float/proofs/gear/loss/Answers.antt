-- `float::gear::loss` meets its contract: the casts lose nothing up to 2 ^ 24. Assumes nothing.
use Rattle.std.proofs.Common.{refl, arith}
use lib.Ieee.{binary32, of_int, of_bits}
use Rattle.ieee.proofs.Tests.{in-float}
use Rattle.float.proofs.gear.loss.Goals as goal

pub int_to_float-result : goal.int_to_float-result
int_to_float-result c = in-float binary32 _ (omega arith)

pub int_to_float-result-2 : goal.int_to_float-result-2
int_to_float-result-2 c = in-float binary32 _ (omega arith)

pub returns : goal.returns
unfolding of_int of_bits
returns c = refl
