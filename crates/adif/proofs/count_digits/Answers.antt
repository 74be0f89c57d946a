-- `adif::count_digits` meets its contract.
use native.Mathlib.Omega.{arith}
use Rattle.adif.proofs.Steps.{count-found, count_next, count-last}
use Rattle.adif.proofs.count_digits.Goals as goal

pub returns-then-rest-lt10 : goal.returns-then-rest-lt10
returns-then-rest-lt10 c = count-found _ _ _ c.loop-k.invariant (omega arith) (omega arith) (omega arith)

pub loop-k-preserved : goal.loop-k-preserved
loop-k-preserved c = count_next _ _ _ c.loop-k.invariant (omega arith) (omega arith) (omega arith)

pub returns : goal.returns
returns c = count-last _ _ _ c.loop-k.invariant (omega arith) (omega arith)
