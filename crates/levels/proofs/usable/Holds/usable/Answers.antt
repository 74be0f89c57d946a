use Rattle.std.proofs.Common.{sym, refl, ◌∙◌, arith}
use Rattle.laws.proofs.Span.{every-pass, every-fail, every-end}
use Rattle.laws.proofs.Picks.{told-yes, told-no, is-and, is-not-and}
use Rattle.levels.specs.Usable.{usable}
use Rattle.levels.proofs.usable.Holds.usable.Goals as goal

pub returns-then-not-family_ok : goal.returns-then-not-family_ok
unfolding usable
returns-then-not-family_ok c = is-not-and _ _ _ (told-no _ _ c.family_ok.ensures c.if-not-family_ok.true) refl

pub loop-k-init : goal.loop-k-init
loop-k-init c = (refl, omega arith, refl)

pub returns-then-not-passes : goal.returns-then-not-passes
unfolding usable
returns-then-not-passes c = is-and _ _ _ (told-yes _ _ c.family_ok.ensures c.if-not-family_ok.false) (sym (c.loop-k.invariant.0 ∙ every-fail _ _ _ (omega arith) (told-no _ _ c.passes.ensures c.if-not-passes.true)))

pub loop-k-preserved : goal.loop-k-preserved
loop-k-preserved c = (c.loop-k.invariant.0 ∙ every-pass _ _ _ (omega arith) (told-yes _ _ c.passes.ensures c.if-not-passes.false), omega arith, c.loop-k.invariant.2)

pub returns : goal.returns
unfolding usable
returns c = is-and _ _ _ (told-yes _ _ c.family_ok.ensures c.if-not-family_ok.false) (sym (c.loop-k.invariant.0 ∙ every-end _ _ _ (omega arith)))
