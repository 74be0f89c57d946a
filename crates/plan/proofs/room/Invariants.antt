use Prim.Native.Nat.{◌≤◌}
use mathlib.Core.Path.{◌≡◌}
use Rattle.limits.specs.Limits.{max_slots}
use Rattle.plan.specs.PlanningCode.{room_counted, room_down}
use Rattle.plan.proofs.room.Given as goal

abbrev pub invariant-loop-r : goal.invariant-loop-r
invariant-loop-r l =
    (l.r ≤ max_slots) × (room_counted l.c l.n l.stored l.bits max_slots 0 ≡ room_down l.c l.bits l.r)
