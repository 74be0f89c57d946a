use Rattle.std.proofs.Common.{sym, refl, ◌∙◌, arith}
use Rattle.laws.proofs.Span.{first-hit, first-miss, first-end}
use Rattle.levels.specs.Usable.{lowest_long}
use Rattle.levels.proofs.down.lowest_long.Goals as goal

pub loop-k-init : goal.loop-k-init
unfolding lowest_long
loop-k-init c = (refl, omega arith)

pub returns-then-family_ok-long_frame : goal.returns-then-family_ok-long_frame
returns-then-family_ok-long_frame c = sym (c.loop-k.invariant.0 ∙ first-hit _ _ _ _ (omega arith) (rw (← c.long_frame.ensures, ← c.family_ok.ensures) c.if-family_ok-long_frame.true))

pub loop-k-preserved : goal.loop-k-preserved
loop-k-preserved c = (c.loop-k.invariant.0 ∙ first-miss _ _ _ _ (omega arith) (rw (← c.long_frame.ensures, ← c.family_ok.ensures) c.if-family_ok-long_frame.false), omega arith)

pub returns : goal.returns
returns c = sym (c.loop-k.invariant.0 ∙ first-end _ _ _ _ (omega arith))
