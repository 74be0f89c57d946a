-- `adif::put_decimal` meets its contract. Assumes nothing.
use native.Mathlib.Omega.{arith}
use Rattle.adif.proofs.Steps.{decimal-made, places-most}
use Rattle.adif.proofs.put_decimal.Goals as goal

pub put_digits-requires : goal.put_digits-requires
put_digits-requires c = omega (arith, places-most 9 c.args.n)

pub overflow_add-result : goal.overflow_add-result
overflow_add-result c = omega (arith, places-most 9 c.args.n)

pub returns : goal.returns
returns c = decimal-made _ _ _ _ _ c.count_digits-k.ensures c.put_digits.ensures
