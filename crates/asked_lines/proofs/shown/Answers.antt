-- `shown`: the record stays. Assumes nothing.
use Rattle.asked_lines.specs.AskedLines.{shown_said}
use Rattle.asked_lines.proofs.Laws.{shown_by}
use Rattle.asked_lines.proofs.shown.Goals as goal

pub returns : goal.returns
unfolding shown_said
returns c = shown_by _ c.look-q.ensures
