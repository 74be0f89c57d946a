-- `meaning::named`: the same word. Assumes nothing.
use Rattle.laws.proofs.Picks.{picks}
use Rattle.words.specs.Words.{named_of}
use Rattle.words.proofs.meaning.named.Goals as goal

pub returns-then-eq : goal.returns-then-eq
unfolding named_of
returns-then-eq c = search picks

pub returns-else-eq : goal.returns-else-eq
unfolding named_of
returns-else-eq c = search picks
