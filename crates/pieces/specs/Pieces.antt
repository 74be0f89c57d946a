-- The ledger's pieces that the table's rows and the stream hold. Definitions only.
use Rattle.std.specs.Prelude.{List, [], ◌∷◌, ℕ, take, drop}
use Rattle.area.specs.declared.table.Row.{Row}
use Rattle.ledger.specs.Ledger.{Piece}

-- the rows' pieces; the stream has their bytes, one row after the other
abbrev pub pieces_of : List Row → List ℕ → List Piece
pieces_of [] st = []
pieces_of (r ∷ rs) st = record { off = r.off; bytes = take r.len st } ∷ pieces_of rs (drop r.len st)
