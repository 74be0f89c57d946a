use lib.ListN.{drop, length}
use Rattle.settle.specs.Settle.{with_more_held, missed_in}
use Prim.Native.Nat.{◌+◌, ◌-◌, ◌≤◌}
use mathlib.Core.Path.{◌≡◌}
use Rattle.limits.specs.Limits.{max_slots}
use Rattle.settle.proofs.missed.Given as goal

abbrev pub invariant-loop-i : goal.invariant-loop-i
invariant-loop-i l =
    (l.h.n + (length l.offs - l.i) ≤ max_slots) × (with_more_held l.initial.h (missed_in l.bitmap l.top l.offs l.held) ≡ with_more_held l.h (missed_in l.b l.top (drop l.i l.offs) (drop l.i l.held)))
