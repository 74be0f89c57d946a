use Rattle.level.specs.Ladder.{air_mean_td}
use borrow.Author.Rules.{rules}
use Rattle.level.proofs.air_mean_td_db.Goals as goal

pub returns : goal.returns
unfolding air_mean_td
returns c = search rules
