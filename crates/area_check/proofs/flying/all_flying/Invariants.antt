use mathlib.Core.Bool.{true}
use lib.ListN.{drop, length}
use Rattle.area.specs.Table.{rows_from}
use Rattle.area.specs.Removal.{Hashed}
use Rattle.area_check.specs.Rows.{row_offs, all_flying}
use Prim.Native.Nat.{◌≤◌}
use mathlib.Core.Path.{◌≡◌}
use Rattle.area_check.proofs.flying.all_flying.Given as goal

abbrev pub invariant-loop-i : goal.invariant-loop-i
invariant-loop-i l =
    (l.i ≤ length l.xs) × Hashed l.hashes (drop l.i l.xs) × (all_flying (drop l.i l.xs) (row_offs (rows_from l.a 0 l.n)) ≡ true)
