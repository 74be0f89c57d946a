-- The rows and bytes that stay hold the pieces that are not listed.
-- Assumes nothing.
use mathlib.Core.Path.{◌≡◌, refl, ap, ap₂, ◌∙◌}
use mathlib.Core.List.{List, [], ◌∷◌, ◌++◌}
use mathlib.Core.Bool.{Bool, true, false, cond}
use Prim.Native.Nat.{ℕ, ◌≤◌}
use lib.ListN.{length, take, drop}
use lib.Seq.{take_at, drop_at}
use Rattle.laws.specs.Lists.{listed}
use Rattle.area.specs.declared.table.Row.{Row}
use Rattle.area.specs.Table.{total}
use Rattle.area.specs.Removal.{kept_rows, kept_bytes}
use Rattle.ledger.specs.Ledger.{Piece}
use Rattle.pieces.specs.Pieces.{pieces_of}
use Rattle.pieces.proofs.Sound.{head-length}
use Rattle.pieces.specs.PiecesCode.{unlisted_pieces}

kept-turn : (b : Bool) (r : Row) (bs : List ℕ) (rs : List Row) (st : List ℕ) (ps : List Piece) → length bs ≡ r.len → pieces_of rs st ≡ ps
    → pieces_of (cond b rs (r ∷ rs)) (cond b st (bs ++ st)) ≡ cond b ps (record { off = r.off; bytes = bs } ∷ ps)
kept-turn true r bs rs st ps e i = i
kept-turn false r bs rs st ps e i =
    ap₂ (λ (x y : List ℕ). record { off = r.off; bytes = x } ∷ pieces_of rs y) (take_at bs st r.len e) (drop_at bs st r.len e)
    ∙ ap (λ (y : List Piece). record { off = r.off; bytes = bs } ∷ y) i

pub kept_pieces : (xs : List ℕ) (rs : List Row) (st : List ℕ) → total rs ≤ length st → pieces_of (kept_rows xs rs) (kept_bytes xs rs st) ≡ unlisted_pieces xs (pieces_of rs st)
unfolding kept_rows kept_bytes
kept_pieces xs [] st h = refl
kept_pieces xs (r ∷ rs) st h =
    let e = head-length r rs st h in
    kept-turn (listed r.off xs) r (take r.len st) (kept_rows xs rs) (kept_bytes xs rs (drop r.len st)) (unlisted_pieces xs (pieces_of rs (drop r.len st))) e.0 (kept_pieces xs rs (drop r.len st) e.1)
