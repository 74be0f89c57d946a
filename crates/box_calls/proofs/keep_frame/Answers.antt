-- `keep_frame`: its bytes behind those heard. Assumes nothing.
use Rattle.box_calls.specs.BoxCalls.{keep_frame}
use Rattle.box_calls.proofs.keep_frame.Goals as goal

pub returns : goal.returns
unfolding keep_frame
returns c = rw c.copy_in.ensures
