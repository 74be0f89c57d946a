use Prim.Native.Nat.{◌*◌, ◌+◌, ◌-◌, ◌≤◌}
use Rattle.area.specs.Table.{rows_from, total}
use Rattle.area_check.specs.Rows.{ascends, short_frames_of}
use mathlib.Core.Path.{◌≡◌}
use Rattle.area_check.proofs.rows.table_ok.Given as goal

abbrev pub invariant-loop-i : goal.invariant-loop-i
invariant-loop-i l =
    (l.i ≤ l.n) × (l.from ≤ 8589934592) × (l.sum ≤ 4294967296 * l.i) × (l.shorts ≤ 4294967551 * l.i)
    × (ascends l.long l.next 0 (rows_from l.a 0 l.n) ≡ ascends l.long l.next l.from (rows_from l.a l.i (l.n - l.i)))
    × (total (rows_from l.a 0 l.n) ≡ l.sum + total (rows_from l.a l.i (l.n - l.i)))
    × (short_frames_of l.short (rows_from l.a 0 l.n) ≡ l.shorts + short_frames_of l.short (rows_from l.a l.i (l.n - l.i)))
