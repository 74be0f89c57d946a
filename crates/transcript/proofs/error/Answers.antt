-- `transcript::error` meets its contract.
use Rattle.std.proofs.Common.{rules}
use Rattle.text.proofs.Texts.{◌⨾◌}
use Rattle.transcript.proofs.error.Goals as goal

pub returns : goal.returns
returns c = let put = c.puts.ensures ⨾ c.number.ensures ⨾ c.puts-2.ensures in search rules
