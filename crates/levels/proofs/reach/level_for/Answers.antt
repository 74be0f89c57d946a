use Rattle.std.proofs.Common.{◌≡◌, sym, refl, ◌∙◌, arith}
use Rattle.laws.proofs.Steps.{highest-none, highest-hit, highest-miss}
use Rattle.laws.proofs.Picks.{told-yes, told-no}
use Rattle.levels.specs.Usable.{level_for}
use Rattle.levels.proofs.reach.level_for.Goals as goal

pub loop-l-init : goal.loop-l-init
unfolding level_for
loop-l-init c = refl

pub returns-then-enough : goal.returns-then-enough
returns-then-enough c = sym (c.loop-l.invariant ∙ highest-hit _ _ _ (omega arith) (told-yes _ _ c.enough.ensures c.if-enough.true))

pub loop-l-preserved : goal.loop-l-preserved
loop-l-preserved c = c.loop-l.invariant ∙ highest-miss _ _ _ (omega arith) (told-no _ _ c.enough.ensures c.if-enough.false)

pub returns : goal.returns
returns c = let e : c.loop-l.l ≡ 0 = omega arith in highest-none _ _ ∙ sym (rw e at c.loop-l.invariant)
