use Prim.Native.Nat.{◌*◌}
use Rattle.messages.specs.Messages.{entries_in, total_left, entries_ok}
use Rattle.messages.proofs.Scan.{rest}
use Prim.Native.Nat.{◌+◌, ◌≤◌}
use mathlib.Core.Path.{◌≡◌}
use Rattle.messages.proofs.messages_ok.Given as goal

abbrev pub invariant-loop-i : goal.invariant-loop-i
invariant-loop-i l =
    (l.sum ≤ 65535 * l.i) × (entries_ok (entries_in l.m) ≡ entries_ok (rest l.m l.n l.i)) × (total_left (entries_in l.m) ≡ l.sum + total_left (rest l.m l.n l.i))
