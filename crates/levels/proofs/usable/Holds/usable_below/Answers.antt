use Rattle.levels.specs.Usable.{usable_below}
use Rattle.laws.proofs.Steps.{highest-none, highest-hit, highest-miss}
use Rattle.std.proofs.Common.{◌≡◌, sym, refl, ◌∙◌, arith}
use Rattle.laws.proofs.Picks.{picks, told-yes, told-no, cond_no}
use Rattle.levels.proofs.usable.Holds.usable_below.Goals as goal

pub returns-then-pin : goal.returns-then-pin
unfolding usable_below
returns-then-pin c = search picks

pub loop-k-init : goal.loop-k-init
loop-k-init c = refl

pub returns-then-usable : goal.returns-then-usable
unfolding usable_below
returns-then-usable c = cond_no _ _ _ _ c.if-pin.false (sym (c.loop-k.invariant ∙ highest-hit _ _ _ (omega arith) (told-yes _ _ c.usable.ensures c.if-usable.true)))

pub loop-k-preserved : goal.loop-k-preserved
loop-k-preserved c = c.loop-k.invariant ∙ highest-miss _ _ _ (omega arith) (told-no _ _ c.usable.ensures c.if-usable.false)

pub returns : goal.returns
unfolding usable_below
returns c = let e : c.loop-k.k ≡ 0 = omega arith in cond_no _ _ _ _ c.if-pin.false (highest-none _ _ ∙ sym (rw e at c.loop-k.invariant))
