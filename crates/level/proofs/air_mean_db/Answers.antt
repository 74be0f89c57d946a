use Rattle.level.specs.Ladder.{air_mean}
use borrow.Author.Rules.{rules}
use Rattle.level.proofs.air_mean_db.Goals as goal

pub returns : goal.returns
unfolding air_mean
returns c = search rules
