use Prim.Native.Nat.{◌*◌, ◌+◌, ◌-◌, ◌≤◌}
use Rattle.area.specs.Table.{rows_from}
use Rattle.area.specs.Recut.{split_rows}
use mathlib.Core.Path.{◌≡◌}
use lib.ListN.{length}
use Rattle.area.proofs.splitting.split_count.Given as goal

abbrev pub invariant-loop-i : goal.invariant-loop-i
invariant-loop-i l =
    (l.i ≤ l.n) × (l.sum ≤ 4294967296 * l.i) × (length (split_rows l.max (rows_from l.a 0 l.n)) ≡ l.sum + length (split_rows l.max (rows_from l.a l.i (l.n - l.i))))
