-- `transcript::burst::frame` meets its contract.
use Rattle.text.proofs.Texts.{◌⨾◌}
use Rattle.transcript.proofs.burst.frame.Goals as goal

pub returns : goal.returns
returns c = c.puts.ensures ⨾ c.number.ensures ⨾ c.number-2.ensures ⨾ c.number-3.ensures ⨾ c.number-4.ensures ⨾ c.hex.ensures ⨾ c.puts-2.ensures
