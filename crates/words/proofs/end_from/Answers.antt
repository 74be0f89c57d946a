-- `end_from`: what is left of the line has the end. Assumes nothing.
use Rattle.std.proofs.Common.{arith, sym, ◌∙◌}
use Rattle.words.proofs.Laws.{end-here, end_more, end-last}
use Rattle.words.proofs.end_from.Goals as goal

pub returns-then-line-e-eq32 : goal.returns-then-line-e-eq32
returns-then-line-e-eq32 c = (sym (c.loop-e.invariant ∙ end-here c.args.line.now c.loop-e.e (omega arith) c.if-line-e-eq32.true), (omega arith, omega arith))

pub loop-e-preserved : goal.loop-e-preserved
loop-e-preserved c = c.loop-e.invariant ∙ end_more c.args.line.now c.loop-e.e (omega arith) c.if-line-e-eq32.false

pub returns : goal.returns
returns c = (sym (c.loop-e.invariant ∙ end-last c.args.line.now c.loop-e.e (omega arith)), (c.requires, omega arith))
