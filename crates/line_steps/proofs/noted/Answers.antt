-- `noted`: by the number of the last burst. Assumes nothing.
use mathlib.Core.Path.{refl}
use borrow.Author.Tests.{eq-eqb, ne_eqb}
use Rattle.laws.proofs.Picks.{cond_yes, cond_no}
use Rattle.line_steps.specs.LineSteps.{burst_noted}
use Rattle.line_steps.proofs.noted.Goals as goal

pub returns-then-s-run : goal.returns-then-s-run
unfolding burst_noted
returns-then-s-run c = cond_no _ _ _ _ (ne_eqb _ _ c.if-s-run.true) c.burst_sent.ensures

pub returns : goal.returns
unfolding burst_noted
returns c = cond_yes _ _ _ _ (eq-eqb _ _ c.if-s-run.false) refl
