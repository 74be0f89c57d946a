-- `state_lines::tally` meets its contract.
use Rattle.text.proofs.Texts.{◌⨾◌}
use Rattle.state_lines.proofs.tally.Goals as goal

pub returns : goal.returns
returns c =
    c.number.ensures ⨾ c.number-2.ensures ⨾ c.number-3.ensures ⨾ c.number-4.ensures
