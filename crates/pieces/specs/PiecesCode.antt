-- The ledger's pieces that the table's rows and the stream hold: what follows the code or serves proofs; nothing here has to be believed.
use Rattle.std.specs.Prelude.{List, [], ◌∷◌, cond, ℕ}
use Rattle.laws.specs.Lists.{listed}
use Rattle.ledger.specs.Ledger.{Piece}

-- the pieces that are left once the listed ones are removed
abbrev pub unlisted_pieces : List ℕ → List Piece → List Piece
unlisted_pieces xs [] = []
unlisted_pieces xs (p ∷ ps) = cond (listed p.off xs) (unlisted_pieces xs ps) (p ∷ unlisted_pieces xs ps)
