use Rattle.limits.specs.Limits.{max_taken}
use Rattle.messages.specs.Messages.{total_left, begun_in}
use Rattle.messages.specs.MessagesCode.{withdrawn}
use Rattle.messages.proofs.Scan.{rest}
use Rattle.messages.proofs.Withdrawn.{leaves}
use Prim.Native.Nat.{◌+◌, ◌≤◌}
use mathlib.Core.Path.{◌≡◌}
use Rattle.messages.proofs.withdraw.Given as goal

abbrev pub invariant-loop-i : goal.invariant-loop-i
invariant-loop-i l =
    (l.to ≤ l.i) × (l.out.withdrawn + total_left (rest l.m l.rows l.i) ≤ max_taken) × (withdrawn l.label l.m ≡ leaves l.out l.to l.label l.begun (rest l.m l.rows l.i) (begun_in l.m))
