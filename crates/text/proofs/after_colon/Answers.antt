-- `text::after_colon` meets its contract.
use Rattle.text.specs.Words.{after_colon}
use Rattle.text.proofs.Laws.{appends, ◌⨾◌}
use Rattle.text.proofs.after_colon.Goals as goal

pub returns : goal.returns
unfolding after_colon
returns c = (appends c.puts-n.ensures ⨾ appends c.decimal.ensures).is
