-- `frames_room`. Assumes nothing.
use mathlib.Core.Path.{refl}
use Rattle.box_calls.specs.BoxCalls.{frames_room}
use Rattle.box_calls.proofs.frames_room.Goals as goal

pub returns : goal.returns
unfolding frames_room
returns c = refl
