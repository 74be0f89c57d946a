-- Laws of merging: turns of the loop, and how many rows there are.
-- Assumes nothing.
use mathlib.Core.Path.{◌≡◌, sym, ap, ap₂, ◌∙◌}
use mathlib.Core.List.{List, [], ◌∷◌}
use mathlib.Core.Bool.{true, false, cond}
use Prim.Native.Nat.{ℕ, suc, ◌+◌, ◌-◌, ◌<◌}
use native.Mathlib.Omega.{arith}
use lib.ListN.{length}
use Rattle.laws.specs.Bytes.{overwrite}
use Rattle.laws.proofs.Bytes.{over-cat}
use Rattle.area.specs.Layout.{place}
use Rattle.area.specs.Table.{row_at, rows_from, table_bytes}
use Rattle.area.specs.declared.table.Row.{Row}
use Rattle.area.proofs.table.Laws.{rows-turn, rows-after}
use Rattle.area.specs.Recut.{row, joins_row, merge_rows_from}

-- a turn of the loop that joins, where row i is q: it is joined to the row in hand, or that one is written
module _ (max : ℕ) (held : List ℕ) (p q : Row) (a : List ℕ) (i n w : ℕ) (h : i < n) (e : q ≡ row_at a i) where
  merge_step : merge_rows_from held max p (rows_from a i (n - i))
      ≡ cond (joins_row held max p q) (merge_rows_from held max (row p.off (p.len + q.len)) (rows_from a (i + 1) (n - (i + 1)))) (p ∷ merge_rows_from held max q (rows_from a (i + 1) (n - (i + 1))))
  unfolding merge_rows_from
  merge_step = ap (merge_rows_from held max p) (rows-turn a i n q h e)

  pub merge-join : joins_row held max p q ≡ true → merge_rows_from held max p (rows_from a i (n - i)) ≡ merge_rows_from held max (row p.off (p.len + q.len)) (rows_from a (i + 1) (n - (i + 1)))
  merge-join j = merge_step ∙ simp j

  pub merge-keep : joins_row held max p q ≡ false → merge_rows_from held max p (rows_from a i (n - i)) ≡ p ∷ merge_rows_from held max q (rows_from a (i + 1) (n - (i + 1)))
  merge-keep j = merge_step ∙ simp j

  -- the row in hand goes to row w, below those that are still to be read
  pub merge-store : joins_row held max p q ≡ false → w < i
      → let b = overwrite a (place w) (table_bytes (p ∷ [])) in
      overwrite a (place w) (table_bytes (merge_rows_from held max p (rows_from a i (n - i)))) ≡ overwrite b (place (w + 1)) (table_bytes (merge_rows_from held max q (rows_from b (i + 1) (n - (i + 1)))))
  merge-store j l =
      let t : place w + 8 ≡ place (w + 1) = omega arith in
      ap (λ (x : List Row). overwrite a (place w) (table_bytes x)) (merge-keep j)
      ∙ sym (over-cat a (place w) (table_bytes (p ∷ [])) (table_bytes (merge_rows_from held max q (rows_from a (i + 1) (n - (i + 1))))))
      ∙ ap₂ (λ (k : ℕ) (x : List Row). overwrite (overwrite a (place w) (table_bytes (p ∷ []))) k (table_bytes (merge_rows_from held max q x))) t
      (sym (rows-after a (place w) (table_bytes (p ∷ [])) (i + 1) (n - (i + 1)) (omega arith)))

  pub merge_less : joins_row held max p q ≡ false → w < i
      → length (merge_rows_from held max p (rows_from a i (n - i))) ≡ 1 + length (merge_rows_from held max q (rows_from (overwrite a (place w) (table_bytes (p ∷ []))) (i + 1) (n - (i + 1))))
  merge_less j l =
      ap length (merge-keep j)
      ∙ ap (λ (x : List Row). suc (length (merge_rows_from held max q x))) (sym (rows-after a (place w) (table_bytes (p ∷ [])) (i + 1) (n - (i + 1)) (omega arith)))
      ∙ omega arith
