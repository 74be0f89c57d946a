-- Pieces re-cut to a frame's payload in `data_burst`, and neighbours merged by `merge_inflight` (sender.rs), on the table's rows. Follows the code or serves proofs: nothing here has to be believed.
use Rattle.std.specs.Prelude.{List, [], ◌∷◌, ◌++◌, Bool, cond, not, ◌&&◌, ℕ, zero, suc, ◌+◌, ◌-◌, length, leb, eqb}
use Rattle.laws.specs.Lists.{listed}
use Rattle.area.specs.Table.{rows_from}
use Rattle.area.specs.declared.table.Row.{Row}
use Rattle.area.specs.TableCode.{with_rows}

abbrev pub row : ℕ → ℕ → Row
row o n = record { off = o; len = n }

-- how many rows there are, and the work area with these rows for its table
abbrev pub new_table : List ℕ → List Row → ℕ × List ℕ
new_table a rs = (length rs, with_rows a 0 rs)

-- ---- cut

-- `data.chunks(max)` of the n bytes at offset o; k bounds the number of cuts
unfoldable pub cut_rows : ℕ → ℕ → ℕ → ℕ → List Row
cut_rows zero max o n = row o n ∷ []
cut_rows (suc k) max o n = cond (leb n max) (row o n ∷ []) (row o max ∷ cut_rows k max (o + max) (n - max))

abbrev pub cut_row : ℕ → Row → List Row
cut_row max r = cut_rows r.len max r.off r.len

unfoldable pub split_rows : ℕ → List Row → List Row
split_rows max [] = []
split_rows max (r ∷ rs) = cut_row max r ++ split_rows max rs

-- the first n rows cut
unfoldable pub split_table : ℕ → ℕ → List ℕ → ℕ × List ℕ
split_table max n a = new_table a (split_rows max (rows_from a 0 n))

-- ---- merged

-- q joins p: q starts where p ends, the two fit, and neither is held
abbrev pub joins_row : List ℕ → ℕ → Row → Row → Bool
joins_row held max p q = eqb (p.off + p.len) q.off && (leb (p.len + q.len) max && (not (listed p.off held) && not (listed q.off held)))

-- from the piece p on
unfoldable pub merge_rows_from : List ℕ → ℕ → Row → List Row → List Row
merge_rows_from held max p [] = p ∷ []
merge_rows_from held max p (q ∷ rs) = cond (joins_row held max p q) (merge_rows_from held max (row p.off (p.len + q.len)) rs) (p ∷ merge_rows_from held max q rs)

unfoldable pub merge_rows : List ℕ → ℕ → List Row → List Row
merge_rows held max [] = []
merge_rows held max (p ∷ rs) = merge_rows_from held max p rs

-- the first n rows merged
unfoldable pub merge_table : List ℕ → ℕ → ℕ → List ℕ → ℕ × List ℕ
merge_table held max n a = new_table a (merge_rows held max (rows_from a 0 n))
