use borrow.Author.Tests.{le-leb, lt-leb}
use Rattle.laws.proofs.Steps.{highest-none, highest-hit, highest-miss}
use Rattle.level.specs.Ladder.{top_level_in}
use mathlib.Core.Path.{◌≡◌, refl, sym, ◌∙◌}
use native.Mathlib.Omega.{arith}
use Rattle.level.proofs.top_level_in.Goals as goal

pub loop-k-init : goal.loop-k-init
unfolding top_level_in
loop-k-init c = refl

pub returns-then-wave_rank-w : goal.returns-then-wave_rank-w
returns-then-wave_rank-w c = sym (c.loop-k.invariant ∙ highest-hit _ _ _ (omega arith) (le-leb _ _ (rw c.wave_rank.ensures at c.if-wave_rank-w.true)))

pub loop-k-preserved : goal.loop-k-preserved
loop-k-preserved c = (c.loop-k.invariant ∙ highest-miss _ _ _ (omega arith) (lt-leb _ _ (rw c.wave_rank.ensures at c.if-wave_rank-w.false)))

pub returns : goal.returns
returns c = let e : c.loop-k.k ≡ 0 = omega arith in highest-none _ _ ∙ sym (rw e at c.loop-k.invariant)
