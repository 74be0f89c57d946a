use Rattle.level.specs.Ladder.{wave_rank}
use borrow.Author.Rules.{rules}
use Rattle.level.proofs.wave_rank.Goals as goal

pub returns : goal.returns
unfolding wave_rank
returns c = search rules
