-- `transcript::answer` meets its contract.
use Rattle.std.proofs.Common.{rules}
use Rattle.text.proofs.Texts.{◌⨾◌}
use Rattle.transcript.proofs.answer.Goals as goal

pub returns : goal.returns
returns c = let put = c.puts.ensures ⨾ c.outcome.ensures ⨾ c.puts-2.ensures in search rules
