use lib.ListN.{drop, length}
use mathlib.Core.Bool.{◌||◌}
use Rattle.laws.specs.Lists.{listed}
use Prim.Native.Nat.{◌≤◌}
use mathlib.Core.Path.{◌≡◌}
use Rattle.area.proofs.removal.contains.Given as goal

abbrev pub invariant-loop-o : goal.invariant-loop-o
invariant-loop-o l =
    (l.o-index ≤ length l.offs) × (listed l.off l.offs ≡ (l.found || listed l.off (drop l.o-index l.offs)))
