-- The table with P7's one piece, as `split_table` asks for it.
-- Assumes nothing.
use mathlib.Core.Path.{◌≡◌, refl, subst, ap, ◌∙◌}
use mathlib.Core.List.{List, [], ◌∷◌}
use Prim.Native.Nat.{ℕ, ◌+◌, ◌≤◌, ◌<◌}
use native.Mathlib.Omega.{arith}
use lib.ListN.{length, get_or}
use Rattle.laws.specs.Bytes.{overwrite}
use Rattle.area.specs.Layout.{place, area_bytes}
use Rattle.area.specs.Table.{row_at, rows_from, table_bytes}
use Rattle.area.specs.declared.table.Row.{Row}
use Rattle.area.proofs.table.Laws.{rows_written}
use Rattle.area.specs.Recut.{row, cut_rows, split_rows}
use Rattle.limits.specs.Limits.{max_pieces, max_taken}

abbrev stored : List ℕ → List ℕ
stored a = overwrite a (place 0) (table_bytes (row 100 50 ∷ []))

one : (a b : List ℕ) → b ≡ stored a → area_bytes ≤ length a → rows_from b 0 1 ≡ row 100 50 ∷ []
one a b e h = ap (λ (x : List ℕ). rows_from x 0 1) e ∙ rows_written (row 100 50 ∷ []) a 0 (omega arith, omega arith, _) (omega arith)

three : length (split_rows 22 (row 100 50 ∷ [])) ≡ 3
unfolding split_rows cut_rows
three = refl

pub few : (a b : List ℕ) → b ≡ stored a → area_bytes ≤ length a → length (split_rows 22 (rows_from b 0 1)) ≤ max_pieces
few a b e h = let k = ap (λ (rs : List Row). length (split_rows 22 rs)) (one a b e h) ∙ three in omega (arith, k)

pub ends : (a b : List ℕ) → b ≡ stored a → area_bytes ≤ length a → (i : ℕ) → i < 1 → (row_at b i).off + (row_at b i).len ≤ max_taken
ends a b e h i l =
    let z : 0 ≡ i = omega arith in
    let k = ap (λ (rs : List Row). (get_or rs 0 (row 0 0)).off + (get_or rs 0 (row 0 0)).len) (one a b e h) in
    subst (λ (j : ℕ). (row_at b j).off + (row_at b j).len ≤ max_taken) z (omega (arith, k))
