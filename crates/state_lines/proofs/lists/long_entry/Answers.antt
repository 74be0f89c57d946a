-- `state_lines::lists::long_entry` meets its contract.
use Rattle.text.proofs.Texts.{◌⨾◌}
use Rattle.state_lines.proofs.lists.long_entry.Goals as goal

pub returns : goal.returns
returns c =
    c.entry.ensures ⨾ c.after_colon.ensures
