-- `transcript::outcome` meets its contract.
use Rattle.transcript.proofs.Laws.{accepted, refused}
use Rattle.text.proofs.Texts.{told, ◌⨾◌}
use Rattle.transcript.proofs.outcome.Goals as goal

pub returns-then-refusal-eq0 : goal.returns-then-refusal-eq0
returns-then-refusal-eq0 c = told c.puts.ensures (accepted _ c.if-refusal-eq0.true)

pub returns : goal.returns
returns c = told (c.puts-2.ensures ⨾ c.number.ensures) (refused _ c.if-refusal-eq0.false)
