-- `meaning::all_digits`: what is left of the word decides. Assumes nothing.
use Rattle.std.proofs.Common.{arith, sym, ◌∙◌}
use Rattle.words.proofs.Laws.{digits-pass, digits-fail, digits-end}
use Rattle.words.proofs.meaning.all_digits.Goals as goal

pub returns-then-digit-ge16 : goal.returns-then-digit-ge16
returns-then-digit-ge16 c = sym (c.loop-c.invariant ∙ digits-fail c.args.w.now c.loop-c.c-index (omega arith) (omega (arith, c.digit.ensures)))

pub loop-c-preserved : goal.loop-c-preserved
loop-c-preserved c = c.loop-c.invariant ∙ digits-pass c.args.w.now c.loop-c.c-index (omega arith) (omega (arith, c.digit.ensures))

pub returns : goal.returns
returns c = sym (c.loop-c.invariant ∙ digits-end c.args.w.now c.loop-c.c-index (omega arith))
