-- `calendar::date_of` meets its contract.
use mathlib.Core.Path.{◌∙◌}
use native.Mathlib.Omega.{arith}
use Rattle.calendar.proofs.Steps.{year-found, year-next, year-last}
use Rattle.calendar.proofs.date_of.Goals as goal

pub returns-then-d-n : goal.returns-then-d-n
returns-then-d-n c =
    let y = c in
    c.date_in.ensures ∙ year-found _ _ _ y.loop-y.invariant.1 _ y.year_days-n.ensures (omega arith) (omega arith)

pub loop-y-preserved : goal.loop-y-preserved
loop-y-preserved c =
    let y = c in
    (omega arith, year-next _ _ _ y.loop-y.invariant.1 _ y.year_days-n.ensures (omega arith) (omega arith))

pub returns : goal.returns
returns c = c.date_in-2.ensures ∙ year-last _ _ _ c.loop-y.invariant.1 (omega arith)
