-- `try_write`: the refusals in order, then the file. Assumes nothing.
use native.Mathlib.Omega.{arith}
use Rattle.laws.proofs.Picks.{told-yes, told-no}
use Rattle.config.specs.Ranges.{in_order}
use Rattle.config.proofs.ranges.Ranged.{ranged}
use Rattle.card.proofs.Refusals.{write-range, write-order, write-short, write-good}
use Rattle.card.proofs.try_write.Goals as goal

pub returns-then-not-in_range : goal.returns-then-not-in_range
returns-then-not-in_range c =
    write-range c.args.p c.args.out.now
    (told-no _ _ c.in_range.ensures c.if-not-in_range.true)

pub returns-then-not-in_order : goal.returns-then-not-in_order
unfolding in_order
returns-then-not-in_order c =
    write-order c.args.p c.args.out.now
    (told-yes _ _ c.in_range.ensures c.if-not-in_range.false)
    (told-no _ _ c.in_order.ensures c.if-not-in_order.true)

pub returns-then-out-lt-CARD_BYTES : goal.returns-then-out-lt-CARD_BYTES
unfolding in_order
returns-then-out-lt-CARD_BYTES c =
    let c6 = c in
    write-short c6.args.p c6.args.out.now
    (told-yes _ _ c.in_range.ensures c.if-not-in_range.false)
    (told-yes _ _ c.in_order.ensures c.if-not-in_order.false) c.if-out-lt-CARD_BYTES.true

pub put_card-requires : goal.put_card-requires
put_card-requires c =
    let r = ranged _ (told-yes _ _ c.in_range.ensures
    c.if-not-in_range.false) in (omega arith, (r.top, r.skip))

pub returns : goal.returns
unfolding in_order
returns c =
    let c6 = c in
    write-good c6.args.p c6.args.out.now
    (told-yes _ _ c6.in_range.ensures c6.if-not-in_range.false)
    (told-yes _ _ c6.in_order.ensures c.if-not-in_order.false)
    c.if-out-lt-CARD_BYTES.false _ c.put_card.ensures.0
