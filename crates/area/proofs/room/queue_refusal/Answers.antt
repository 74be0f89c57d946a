-- `area::room::queue_refusal` meets its contract.
use Rattle.area.proofs.room.Laws.{full, over, room-enough}
use mathlib.Core.Path.{sym}
use native.Mathlib.Omega.{arith}
use Rattle.area.proofs.room.queue_refusal.Goals as goal

pub returns-then-waiting-gt-MAX_WAITING : goal.returns-then-waiting-gt-MAX_WAITING
returns-then-waiting-gt-MAX_WAITING c = sym (full _ _ _ (omega arith))

pub returns-then-waiting-n : goal.returns-then-waiting-n
returns-then-waiting-n c = sym (full _ _ _ (omega arith))

pub returns-then-taken-n : goal.returns-then-taken-n
returns-then-taken-n c = sym (over _ _ _ (omega arith) (omega arith))

pub returns : goal.returns
returns c = sym (room-enough _ _ _ (omega arith) (omega arith))
