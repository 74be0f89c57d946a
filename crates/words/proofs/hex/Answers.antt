-- `hex`: the next word, and its bytes. Assumes nothing.
use Rattle.words.specs.Lines.{read_as}
use Rattle.words.proofs.hex.Goals as goal

pub returns-clause-value : goal.returns-clause-value
unfolding read_as
returns-clause-value c = cc
