use Rattle.level.specs.Ladder.{rate_of}
use borrow.Author.Rules.{rules}
use Rattle.level.proofs.rate.Goals as goal

pub returns : goal.returns
unfolding rate_of
returns c = search rules
