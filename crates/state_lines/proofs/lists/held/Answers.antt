-- `state_lines::lists::held` meets its contract.
use Rattle.state_lines.specs.State.{held_line}
use Rattle.text.proofs.Texts.{◌⨾◌}
use Rattle.state_lines.proofs.lists.held.Goals as goal

pub returns : goal.returns
unfolding held_line
returns c =
    c.puts.ensures ⨾ c.number.ensures ⨾ c.number-2.ensures ⨾ c.held_from.ensures ⨾ c.puts-2.ensures
