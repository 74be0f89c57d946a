-- The table of the pieces in flight (`inflight` of sender.rs): rows of eight bytes, an offset and a length, low byte first. Definitions only.
use Rattle.std.specs.Prelude.{List, [], ◌∷◌, ◌++◌, ℕ, zero, suc, ◌+◌}
use Rattle.laws.specs.Little.{le, load}
use Rattle.area.specs.Layout.{place}
use Rattle.area.specs.declared.table.Row.{Row}

abbrev pub row_at : List ℕ → ℕ → Row
row_at a i = record { off = load a (place i); len = load a (place i + 4) }

-- n rows from row i on
abbrev pub rows_from : List ℕ → ℕ → ℕ → List Row
rows_from a i zero = []
rows_from a i (suc n) = row_at a i ∷ rows_from a (i + 1) n

-- rows as the table holds them
abbrev pub table_bytes : List Row → List ℕ
table_bytes [] = []
table_bytes (r ∷ rs) = le 4 r.off ++ (le 4 r.len ++ table_bytes rs)

-- the bytes of the pieces, all together
unfoldable pub total : List Row → ℕ
total [] = 0
total (r ∷ rs) = r.len + total rs
