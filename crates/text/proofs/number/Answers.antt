-- `text::number` meets its contract.
use Rattle.text.specs.Words.{number_word}
use Rattle.text.proofs.Laws.{appends, ◌⨾◌}
use Rattle.text.proofs.number.Goals as goal

pub returns : goal.returns
unfolding number_word
returns c = (appends c.puts-n.ensures ⨾ appends c.decimal.ensures).is
