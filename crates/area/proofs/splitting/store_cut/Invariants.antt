use Rattle.laws.specs.Bytes.{overwrite}
use Rattle.area.specs.Layout.{place}
use Rattle.area.specs.Table.{table_bytes}
use Rattle.area.specs.Recut.{cut_rows}
use Prim.Native.Nat.{◌+◌, ◌≤◌}
use mathlib.Core.Path.{◌≡◌}
use lib.ListN.{length}
use Rattle.limits.specs.Limits.{max_pieces, max_taken}
use Rattle.area.proofs.splitting.store_cut.Given as goal

abbrev pub invariant-loop-left : goal.invariant-loop-left
invariant-loop-left l =
    (l.i + length (cut_rows l.left l.max l.o l.left) ≤ max_pieces) × (l.o + l.left ≤ max_taken) × (length l.a ≡ length l.initial.a)
    × (overwrite l.initial.a (place l.w) (table_bytes (cut_rows l.len l.max l.off l.len)) ≡ overwrite l.a (place l.i) (table_bytes (cut_rows l.left l.max l.o l.left)))

abbrev pub decreases-loop-left : goal.decreases-loop-left
decreases-loop-left l =
    l.left
