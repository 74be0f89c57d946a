use Rattle.config.specs.Durations.{slot_at}
use borrow.Author.Rules.{rules}
use Rattle.config.proofs.Air.slot.Goals as goal

pub returns : goal.returns
unfolding slot_at
returns c = search rules
