use Rattle.level.specs.Ladder.{long_frame}
use borrow.Author.Rules.{rules}
use Rattle.level.proofs.long_frame.Goals as goal

pub returns : goal.returns
unfolding long_frame
returns c = search rules
