use Prim.Native.Nat.{◌≤◌}
use Rattle.receiver.proofs.Steps.{rest}
use Rattle.receiver.specs.Taking.{none_taken, all_taken, slotted}
use Rattle.receiver.specs.TakingCode.{InBounds}
use mathlib.Core.Path.{◌≡◌}
use lib.ListN.{length}
use Rattle.receiver.proofs.take_all.Given as goal

abbrev pub invariant-loop-i : goal.invariant-loop-i
invariant-loop-i l =
    (l.at ≤ length l.bytes) × (length l.w ≡ length l.initial.w) × InBounds l.k l.i × (all_taken l.first (rest l.first l.bytes l.sizes l.slots l.at l.i) (l.k, l.w) ≡ all_taken l.first (slotted l.bytes l.sizes l.slots) (none_taken, l.initial.w))
