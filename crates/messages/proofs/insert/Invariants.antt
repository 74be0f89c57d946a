use Rattle.messages.proofs.Entries.{moved}
use Prim.Native.Nat.{◌+◌, ◌≤◌}
use mathlib.Core.Path.{◌≡◌}
use Rattle.messages.proofs.insert.Given as goal

abbrev pub invariant-loop-i : goal.invariant-loop-i
invariant-loop-i l =
    (l.row ≤ l.i) × (l.out ≡ moved l.m (l.row + 1) l.row l.i)
