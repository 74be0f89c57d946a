-- `replied`: the answer, and the record after the call. Assumes nothing.
use Rattle.list_calls.proofs.Laws.{told_of}
use Rattle.list_calls.proofs.answers.replied.Goals as goal

pub returns : goal.returns
returns c = told_of c.answered-text.ensures
