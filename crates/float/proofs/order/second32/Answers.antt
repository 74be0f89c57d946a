-- `float::order::second32` meets its contract (`second_is` of `proofs/order/TotalLaws.antt`). Assumes nothing.
use Rattle.std.proofs.Common.{sym, ◌∙◌}
use Rattle.float.proofs.order.TotalLaws.{second_is}
use Rattle.float.proofs.order.second32.Goals as goal

pub returns-then-total_le : goal.returns-then-total_le
returns-then-total_le c = let p = sym c.total_le.ensures ∙ c.if-total_le.true in sym (second_is _ _ _ ∙ simp p)

pub returns-then-total_le-2 : goal.returns-then-total_le-2
returns-then-total_le-2 c =
    let p = sym c.total_le.ensures ∙ c.if-total_le.false in
    let q = sym c.total_le-2.ensures ∙ c.if-total_le-2.true in
    sym (second_is _ _ _ ∙ simp (p, q))

pub returns : goal.returns
returns c =
    let p = sym c.total_le.ensures ∙ c.if-total_le.false in
    let q = sym c.total_le-2.ensures ∙ c.if-total_le-2.false in
    sym (second_is _ _ _ ∙ simp (p, q))
