-- `meaning::hex_count`: each part of the test. Assumes nothing.
use Rattle.laws.proofs.Picks.{picks}
use Rattle.words.specs.Words.{hex_count}
use Rattle.words.proofs.meaning.hex_count.Goals as goal

pub returns-then-eq : goal.returns-then-eq
unfolding hex_count
returns-then-eq c = search picks

pub returns-then-all_digits-w : goal.returns-then-all_digits-w
unfolding hex_count
returns-then-all_digits-w c = search picks

pub returns : goal.returns
unfolding hex_count
returns c = search picks
