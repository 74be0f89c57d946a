-- `word`: the first word. Assumes nothing.
use Rattle.words.specs.Lines.{begun}
use Rattle.words.proofs.word.Goals as goal

pub returns : goal.returns
unfolding begun
returns c = cc
