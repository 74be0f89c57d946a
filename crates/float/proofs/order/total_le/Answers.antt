-- `float::order::total_le` meets its contract (`proofs/order/TotalLaws.antt`). Assumes nothing.
use Rattle.std.proofs.Common.{sym, ◌∙◌}
use Rattle.float.proofs.order.TotalLaws.{total_first, total_rest}
use Rattle.float.proofs.order.total_le.Goals as goal

pub returns-then-not_a_number-below : goal.returns-then-not_a_number-below
returns-then-not_a_number-below g c = total_first _ _ _ _ c.not_a_number.ensures c.below.ensures c.if-not_a_number-below.true

pub returns : goal.returns
returns g c = c.level.ensures ∙ sym (total_rest _ _ _ _ c.not_a_number.ensures c.below.ensures c.if-not_a_number-below.false)
