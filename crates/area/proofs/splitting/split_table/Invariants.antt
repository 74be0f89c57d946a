use Rattle.laws.specs.Bytes.{overwrite}
use Rattle.area.specs.Layout.{place}
use Rattle.area.specs.Table.{row_at, rows_from, table_bytes}
use Rattle.area.specs.Recut.{split_rows}
use Prim.Native.Nat.{ℕ, ◌≤◌, ◌<◌}
use mathlib.Core.Path.{◌≡◌}
use lib.ListN.{length}
use Rattle.limits.specs.Limits.{max_pieces}
use Rattle.area.proofs.splitting.split_table.Given as goal

abbrev pub invariant-loop-i : goal.invariant-loop-i
invariant-loop-i l =
    (l.i ≤ l.n) × (l.w ≡ length (split_rows l.max (rows_from l.a 0 l.i))) × (l.w ≤ max_pieces) × (length l.a ≡ length l.initial.a)
    × (overwrite l.initial.a (place 0) (table_bytes (split_rows l.max (rows_from l.initial.a 0 l.n))) ≡ overwrite l.a (place 0) (table_bytes (split_rows l.max (rows_from l.a 0 l.i))))
    × ((k : ℕ) → k < l.i → row_at l.a k ≡ row_at l.initial.a k)
