use Rattle.config.specs.Durations.{max_bits_at}
use borrow.Author.Rules.{rules}
use Rattle.config.proofs.Air.most_bits.Goals as goal

pub returns : goal.returns
unfolding max_bits_at
returns c = search rules
