-- `burst_said`: the answer, and the record after the burst. Assumes nothing.
use Rattle.list_calls.proofs.Laws.{told_of}
use Rattle.list_calls.proofs.answers.burst_said.Goals as goal

pub returns : goal.returns
returns c = told_of c.burst_text-text.ensures
