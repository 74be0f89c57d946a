-- `first_word`: where it ends. Assumes nothing.
use Rattle.std.proofs.Common.{arith}
use Rattle.words.specs.Lines.{first_word}
use Rattle.words.proofs.first_word.Goals as goal

pub returns : goal.returns
unfolding first_word
returns c = (cc, record { ordered = omega arith; within = c.end_from.ensures.1.1 })
