-- `state_lines::counts` meets its contract.
use Rattle.state_lines.specs.State.{counts_line}
use Rattle.text.proofs.Texts.{◌⨾◌}
use Rattle.state_lines.proofs.counts.Goals as goal

pub returns : goal.returns
unfolding counts_line
returns c =
    c.puts.ensures ⨾ c.tally.ensures ⨾ c.number.ensures ⨾ c.puts-2.ensures
