-- `transcript::card` meets its contract.
use Rattle.std.proofs.Common.{rules}
use Rattle.text.proofs.Texts.{◌⨾◌}
use Rattle.transcript.proofs.card.Goals as goal

pub returns : goal.returns
returns c = let put = c.puts.ensures ⨾ c.hex.ensures ⨾ c.puts-2.ensures in search rules
