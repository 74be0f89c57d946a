use lib.ListN.{drop, length}
use Rattle.settle.specs.Settle.{acked_in, offsets_of}
use Rattle.settle.proofs.Laws.{more}
use Prim.Native.Nat.{◌≤◌}
use mathlib.Core.Path.{◌≡◌}
use Rattle.limits.specs.Limits.{max_slots}
use Rattle.settle.proofs.acked.Given as goal

abbrev pub invariant-loop-o : goal.invariant-loop-o
invariant-loop-o l =
    (l.n ≤ l.o-index) × (length l.off ≡ max_slots) × (offsets_of (acked_in l.bitmap l.offs) ≡ more l.off l.n (acked_in l.b (drop l.o-index l.offs)))
