use Rattle.laws.specs.Bytes.{overwrite}
use Rattle.area.specs.Layout.{place}
use Rattle.area.specs.Table.{rows_from, table_bytes}
use Rattle.area.specs.Recut.{merge_rows_from, merge_rows}
use Prim.Native.Nat.{◌+◌, ◌-◌, ◌<◌}
use mathlib.Core.Path.{◌≡◌}
use lib.ListN.{length}
use Rattle.area.proofs.merging.merge_table.Given as goal

abbrev pub invariant-loop-i : goal.invariant-loop-i
invariant-loop-i l =
    (l.w < l.i) × (length l.a ≡ length l.initial.a)
    × (length (merge_rows l.held l.max (rows_from l.initial.a 0 l.n)) ≡ l.w + length (merge_rows_from l.held l.max l.p (rows_from l.a l.i (l.n - l.i))))
    × (overwrite l.initial.a (place 0) (table_bytes (merge_rows l.held l.max (rows_from l.initial.a 0 l.n))) ≡ overwrite l.a (place l.w) (table_bytes (merge_rows_from l.held l.max l.p (rows_from l.a l.i (l.n - l.i)))))
