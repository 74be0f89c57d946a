use Rattle.config.specs.Durations.{data_at}
use borrow.Author.Rules.{rules}
use Rattle.config.proofs.Air.data_s.Goals as goal

pub data_s-requires : goal.data_s-requires
data_s-requires c = search rules

pub returns : goal.returns
unfolding data_at
returns c = rw c.cue_s-lead.ensures at c.data_s.ensures
