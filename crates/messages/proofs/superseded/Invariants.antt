use Rattle.messages.specs.Messages.{entries_in, total_left}
use Rattle.messages.specs.MessagesCode.{go_in}
use Rattle.messages.proofs.Scan.{rest}
use Prim.Native.Nat.{◌+◌, ◌*◌, ◌≤◌}
use mathlib.Core.Path.{◌≡◌}
use lib.ListN.{length}
use Rattle.messages.proofs.superseded.Given as goal

abbrev pub invariant-loop-i : goal.invariant-loop-i
invariant-loop-i l =
    (l.gone ≤ l.i) × (l.bytes ≤ 65535 * l.i) × (length (go_in l.label l.m.begun (entries_in l.m)) ≡ l.gone + length (go_in l.label l.begun (rest l.m l.rows l.i)))
    × (total_left (go_in l.label l.m.begun (entries_in l.m)) ≡ l.bytes + total_left (go_in l.label l.begun (rest l.m l.rows l.i)))
