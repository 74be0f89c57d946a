use Rattle.config.specs.Durations.{ack_at}
use borrow.Author.Rules.{rules}
use Rattle.config.proofs.Air.ack.Goals as goal

pub returns : goal.returns
unfolding ack_at
returns c = search rules
