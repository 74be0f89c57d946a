use lib.ListN.{drop, length}
use Rattle.pieces.specs.Lists.{held_of}
use Rattle.settle.specs.Settle.{with_more_held}
use Prim.Native.Nat.{◌+◌, ◌-◌, ◌≤◌}
use mathlib.Core.Path.{◌≡◌}
use Rattle.limits.specs.Limits.{max_slots}
use Rattle.settle.proofs.rest.Given as goal

abbrev pub invariant-loop-i : goal.invariant-loop-i
invariant-loop-i l =
    (l.h.n + (length l.offs - l.i) ≤ max_slots) × (with_more_held l.initial.h (drop l.from (held_of l.offs l.bits)) ≡ with_more_held l.h (drop l.i (held_of l.offs l.bits)))
