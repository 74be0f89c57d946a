use Prim.Native.Nat.{◌*◌, ◌-◌, ◌≤◌}
use Rattle.area.specs.Table.{rows_from}
use Rattle.area.specs.Find.{find_from}
use mathlib.Core.Path.{◌≡◌}
use Rattle.area.proofs.lookup.find.Given as goal

abbrev pub invariant-loop-i : goal.invariant-loop-i
invariant-loop-i l =
    (l.i ≤ l.n) × (l.start ≤ 4294967296 * l.i) × (find_from l.off 0 (rows_from l.a 0 l.n) ≡ find_from l.off l.start (rows_from l.a l.i (l.n - l.i)))
