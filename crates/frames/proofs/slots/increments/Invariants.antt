use mathlib.Core.Path.{◌≡◌}
use lib.ListN.{drop, length}
use Rattle.area.specs.Table.{rows_from}
use Rattle.frames.specs.Slots.{push_all, increment_slots}
use Prim.Native.Nat.{◌+◌, ◌-◌, ◌≤◌}
use Rattle.limits.specs.Limits.{max_slots}
use Rattle.frames.proofs.slots.increments.Given as goal

abbrev pub invariant-loop-i : goal.invariant-loop-i
invariant-loop-i l =
    (l.i ≤ length l.offs) × (l.s.n + (length l.offs - l.i) ≤ max_slots)
    × (push_all l.initial.s (increment_slots l.q l.slot (rows_from l.a 0 l.n) l.offs l.bits) ≡ push_all l.s (increment_slots l.q l.slot (rows_from l.a 0 l.n) (drop l.i l.offs) (drop l.i l.bits)))
