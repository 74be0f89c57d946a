-- `none`: the next word, by what it means. Assumes nothing.
use Rattle.words.specs.Lines.{read_as}
use Rattle.words.proofs.none.Goals as goal

pub returns : goal.returns
unfolding read_as
returns c = cc
