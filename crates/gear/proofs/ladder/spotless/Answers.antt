use Rattle.gear.specs.Judging.{spotless}
use Rattle.laws.proofs.Span.{every-pass, every-fail, every-end}
use Rattle.std.proofs.Common.{sym, refl, ◌∙◌, arith, eq-eqb, ne_eqb}
use Rattle.gear.proofs.ladder.spotless.Goals as goal

pub loop-k-init : goal.loop-k-init
unfolding spotless
loop-k-init c = (refl, refl)

pub bounds-tries-k : goal.bounds-tries-k
bounds-tries-k c = omega (arith, c.requires, c.loop-k.invariant.1, c.loop-k-test.true)

pub returns-then-tries-k-ne0 : goal.returns-then-tries-k-ne0
returns-then-tries-k-ne0 c = sym (c.loop-k.invariant.0 ∙ every-fail _ _ _ (omega arith) (ne_eqb _ _ c.if-tries-k-ne0.true))

pub loop-k-preserved : goal.loop-k-preserved
loop-k-preserved c = (c.loop-k.invariant.0 ∙ every-pass _ _ _ (omega arith) (eq-eqb _ _ c.if-tries-k-ne0.false), c.loop-k.invariant.1)

pub returns : goal.returns
returns c = sym (c.loop-k.invariant.0 ∙ every-end _ _ _ (omega arith))
