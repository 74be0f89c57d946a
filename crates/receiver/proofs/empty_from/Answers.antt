-- `empty_from` meets its contract: the places passed are empty.
use Rattle.receiver.proofs.Calls.{empty-pass, empty-fail, empty-end}
use mathlib.Core.Path.{refl, sym, ◌∙◌}
use Rattle.receiver.proofs.empty_from.Goals as goal

pub loop-i-init : goal.loop-i-init
loop-i-init c = refl

pub returns-then-w-i-ge256 : goal.returns-then-w-i-ge256
returns-then-w-i-ge256 c =
    sym (sym c.loop-i.invariant ∙ empty-fail c.args.w.now c.loop-i.i c.loop-i-test.true c.if-w-i-ge256.true)

pub loop-i-preserved : goal.loop-i-preserved
loop-i-preserved c =
    sym (empty-pass c.args.w.now c.loop-i.i c.loop-i-test.true c.if-w-i-ge256.false) ∙ c.loop-i.invariant

pub returns : goal.returns
returns c =
    sym (empty-end c.args.w.now c.loop-i.i c.loop-i-test.false) ∙ c.loop-i.invariant
