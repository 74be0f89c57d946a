-- `digits::spell`: what is left of the word has the rest of the number. Assumes nothing.
use Rattle.std.proofs.Common.{arith, sym, ◌∙◌}
use Rattle.std.proofs.lemmas.Grind.{common_steps}
use Rattle.words.proofs.Laws.{spelled-more, spelled-stop, spelled-end}
use Rattle.words.proofs.digits.spell.Goals as goal

pub returns-in_err-n : goal.returns-in_err-n
returns-in_err-n c = let k = spelled-stop c.args.w.now c.loop-c.c-index c.args.base c.loop-c.n (omega arith) (sym c.shifted.ensures ∙ c.in_err-n.was) in grind (arith, common_steps)

pub loop-c-preserved : goal.loop-c-preserved
loop-c-preserved c = c.loop-c.invariant ∙ spelled-more c.args.w.now c.loop-c.c-index c.args.base c.loop-c.n _ (omega arith) (sym c.shifted.ensures ∙ c.in_ok-n.was)

pub returns : goal.returns
returns c = sym (c.loop-c.invariant ∙ spelled-end c.args.w.now c.loop-c.c-index c.args.base c.loop-c.n (omega arith))
