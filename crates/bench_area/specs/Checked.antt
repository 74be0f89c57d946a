-- The sound record's tests of the table and of the lists, one after the other. Follows the code or serves proofs: nothing here has to be believed.
use Rattle.std.specs.Prelude.{List, Bool, ◌&&◌, ℕ}
use Rattle.area.specs.declared.table.Row.{Row}
use Rattle.area_check.specs.Rows.{row_offs, table_ok, all_flying, held_bits_ok, sent_bits_ok}

unfoldable pub checked : ℕ → ℕ → ℕ → ℕ → List Row → List ℕ → List ℕ → ℕ → List ℕ → List ℕ → List ℕ → Bool
checked short long next flying rs held held_bits top sent bits sent_held =
    table_ok short long next flying rs && (all_flying held (row_offs rs) && (all_flying sent (row_offs rs) && (held_bits_ok top held_bits && sent_bits_ok bits sent_held)))
