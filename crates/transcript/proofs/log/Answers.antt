-- `transcript::log` meets its contract.
use Rattle.std.proofs.Common.{rules}
use Rattle.text.proofs.Texts.{◌⨾◌}
use Rattle.transcript.proofs.log.Goals as goal

pub returns : goal.returns
returns c = let put = c.puts.ensures ⨾ c.puts-2.ensures ⨾ c.puts-3.ensures in search rules
