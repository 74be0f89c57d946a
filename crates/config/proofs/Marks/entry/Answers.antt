use Rattle.config.specs.Entries.{entry_at}
use borrow.Author.Rules.{rules}
use Rattle.config.proofs.Marks.entry.Goals as goal

pub returns : goal.returns
unfolding entry_at
returns c = search rules
