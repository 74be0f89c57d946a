-- `transcript::reached::entry` meets its contract.
use Rattle.text.proofs.Texts.{◌⨾◌}
use Rattle.transcript.proofs.reached.entry.Goals as goal

pub returns : goal.returns
returns c = c.number.ensures ⨾ c.after_colon.ensures
