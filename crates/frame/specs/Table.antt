-- The tables of the check sum. Follows the code or serves proofs: nothing here has to be believed.
use Rattle.std.specs.Prelude.{List, [], ◌++◌, map, ℕ, zero, suc, ◌+◌, ◌*◌}
use Rattle.laws.specs.Span.{upto}
use Rattle.frame.specs.Crc.{shifts}

-- table k: each half byte after 4 (k + 1) shifts
abbrev pub half_byte_table : ℕ → List ℕ
half_byte_table k = map (shifts (4 * (k + 1))) (upto 0 16)

-- n tables from number k on, one after the other
abbrev pub tables : ℕ → ℕ → List ℕ
tables k zero = []
tables k (suc n) = half_byte_table k ++ tables (k + 1) n

unfoldable pub table_of : List ℕ
table_of = tables 0 16
