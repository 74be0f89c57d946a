use borrow.Author.Rules.{rules}
use Rattle.ieee.specs.Range.{inside}
use Rattle.config.proofs.ranges.within.Goals as goal

pub returns : goal.returns
unfolding inside
returns c = search rules
