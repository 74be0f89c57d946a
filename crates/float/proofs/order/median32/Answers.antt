-- `float::order::median32` meets its contract (`median-is` of `proofs/order/TotalLaws.antt`). Assumes nothing.
use Rattle.std.proofs.Common.{sym, ◌∙◌}
use Rattle.float.proofs.order.TotalLaws.{median-is}
use Rattle.float.proofs.order.median32.Goals as goal

pub returns-then-total_le : goal.returns-then-total_le
returns-then-total_le c = let p = sym c.total_le.ensures ∙ c.if-total_le.true in sym (median-is _ _ _ ∙ simp p (sym c.second32.ensures))

pub returns : goal.returns
returns c = let p = sym c.total_le.ensures ∙ c.if-total_le.false in sym (median-is _ _ _ ∙ simp p (sym c.second32-2.ensures))
