use Prim.Native.Nat.{◌*◌}
use Rattle.messages.specs.Messages.{entries_in}
use Rattle.messages.specs.MessagesCode.{place_in}
use Rattle.messages.proofs.Scan.{rest}
use Prim.Native.Nat.{◌≤◌}
use mathlib.Core.Path.{◌≡◌}
use Rattle.messages.proofs.place.Given as goal

abbrev pub invariant-loop-row : goal.invariant-loop-row
invariant-loop-row l =
    (l.bytes ≤ 65535 * l.row) × (place_in l.class 0 0 l.m.begun (entries_in l.m) ≡ place_in l.class l.row l.bytes l.begun (rest l.m l.n l.row))
