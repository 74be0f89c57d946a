-- `calendar::date_in` meets its contract.
use native.Mathlib.Omega.{arith}
use Rattle.calendar.proofs.Steps.{month-found, month-next, month-last}
use Rattle.calendar.proofs.date_in.Goals as goal

pub returns-then-left-n : goal.returns-then-left-n
returns-then-left-n c = month-found _ _ _ _ c.loop-month.invariant.1 _ c.month_days-n.ensures (omega arith) (omega arith)

pub loop-month-preserved : goal.loop-month-preserved
loop-month-preserved c = (omega arith, month-next _ _ _ _ c.loop-month.invariant.1 _ c.month_days-n.ensures (omega arith) (omega arith))

pub returns : goal.returns
returns c = month-last _ _ _ _ c.loop-month.invariant.1 (omega arith)
