-- `fresh`. Assumes nothing.
use Rattle.box_calls.proofs.fresh.Goals as goal

pub returns : goal.returns
returns c = rw c.fresh-receiver.ensures
