use Rattle.std.proofs.Common.{◌≡◌, sym, refl, ◌∙◌, arith}
use Rattle.laws.proofs.Steps.{highest-none, highest-hit, highest-miss}
use Rattle.laws.proofs.Picks.{told-yes, told-no}
use Rattle.levels.specs.Usable.{allowed_below}
use Rattle.levels.proofs.down.allowed_below.Goals as goal

pub loop-k-init : goal.loop-k-init
unfolding allowed_below
loop-k-init c = refl

pub returns-then-family_ok : goal.returns-then-family_ok
returns-then-family_ok c = sym (c.loop-k.invariant ∙ highest-hit _ _ _ (omega arith) (told-yes _ _ c.family_ok.ensures c.if-family_ok.true))

pub loop-k-preserved : goal.loop-k-preserved
loop-k-preserved c = c.loop-k.invariant ∙ highest-miss _ _ _ (omega arith) (told-no _ _ c.family_ok.ensures c.if-family_ok.false)

pub returns : goal.returns
returns c = let e : c.loop-k.k ≡ 0 = omega arith in highest-none _ _ ∙ sym (rw e at c.loop-k.invariant)
