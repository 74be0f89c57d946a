use Rattle.header.specs.Header.{user_bits}
use Rattle.header.proofs.Laws.{air-lt}
use Prim.Native.Nat.{◌-◌}
use native.Mathlib.Omega.{arith}
use Rattle.header.proofs.user_bits.Goals as goal

pub overflow_add-result : goal.overflow_add-result
overflow_add-result c = omega (arith, air-lt c.args.l c.requires, c.air_code-code.ensures)

pub overflow_add-result-2 : goal.overflow_add-result-2
overflow_add-result-2 c = omega (arith, air-lt c.args.l c.requires, c.air_code-code.ensures)

pub returns : goal.returns
unfolding user_bits
returns c = rw c.air_code-code.ensures
