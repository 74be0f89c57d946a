use Rattle.config.specs.Ranges.{between}
use borrow.Author.Rules.{rules}
use Rattle.config.proofs.ranges.from_to.Goals as goal

pub returns : goal.returns
unfolding between
returns c = search rules
