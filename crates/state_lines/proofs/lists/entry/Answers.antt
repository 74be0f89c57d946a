-- `state_lines::lists::entry` meets its contract.
use Rattle.text.proofs.Texts.{◌⨾◌}
use Rattle.state_lines.proofs.lists.entry.Goals as goal

pub returns : goal.returns
returns c =
    c.number.ensures ⨾ c.after_colon.ensures
