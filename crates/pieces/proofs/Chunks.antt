-- New rows hold the new pieces, and stand behind those that are there.
-- Assumes nothing.
use mathlib.Core.Path.{◌≡◌, refl, sym, ap, ap₂, ◌∙◌}
use mathlib.Core.List.{List, [], ◌∷◌, ◌++◌}
use Prim.Native.Nat.{ℕ, zero, suc, ◌+◌, ◌-◌, ◌≤◌, min}
use native.Mathlib.Omega.{arith}
use lib.ListN.{length, take, drop, length-take, length-drop, drop_of_length-le}
use lib.Seq.{take_all, take-length, drop-drop}
use lib.Dec.{leb}
use borrow.Author.Tests.{leb-true, leb-false}
use Rattle.laws.proofs.Picks.{test}
use Rattle.area.specs.declared.table.Row.{Row}
use Rattle.area.specs.Table.{total}
use Rattle.frames.specs.Slots.{chunk_rows}
use Rattle.ledger.specs.Ledger.{Piece, chunks}
use Rattle.pieces.specs.Pieces.{pieces_of}

module _ (m : ℕ) (l : List ℕ) where
  take_min : take (min m (length l)) l ≡ take m l
  take_min =
      test (leb m (length l))
      (λ e. let h = leb-true m (length l) e in let q : min m (length l) ≡ m = omega arith in ap (λ (k : ℕ). take k l) q)
      (λ e. let h = leb-false m (length l) e in let q : min m (length l) ≡ length l = omega arith in ap (λ (k : ℕ). take k l) q ∙ take-length l ∙ sym (take_all m l (omega arith)))

  drop_min : drop (min m (length l)) l ≡ drop m l
  drop_min =
      test (leb m (length l))
      (λ e. let h = leb-true m (length l) e in let q : min m (length l) ≡ m = omega arith in ap (λ (k : ℕ). drop k l) q)
      (λ e.
      let h = leb-false m (length l) e in
      let q : length l ≤ min m (length l) = omega arith in
      let r : length l ≤ m = omega arith in
      drop_of_length-le l q ∙ sym (drop_of_length-le l r))

  length-min : min m (length l) ≡ length (take m l)
  length-min = omega (arith, length-take m l)

  rest-min : length l - min m (length l) ≡ length (drop m l)
  rest-min = omega (arith, length-drop m l)

pub chunk-pieces : (k m o : ℕ) (w : List ℕ) → pieces_of (chunk_rows k m o (length w)) w ≡ chunks k m o w
unfolding chunk_rows
chunk-pieces zero m o w = refl
chunk-pieces (suc k) m o [] = refl
chunk-pieces (suc k) m o (x ∷ w) =
    ap₂ (λ (b : List ℕ) (ps : List Piece). record { off = o; bytes = b } ∷ ps) (take_min m (x ∷ w))
    (ap (pieces_of (chunk_rows k m (o + min m (length (x ∷ w))) (length (x ∷ w) - min m (length (x ∷ w))))) (drop_min m (x ∷ w))
    ∙ ap₂ (λ (j n : ℕ). pieces_of (chunk_rows k m (o + j) n) (drop m (x ∷ w))) (length-min m (x ∷ w)) (rest-min m (x ∷ w))
    ∙ chunk-pieces k m (o + length (take m (x ∷ w))) (drop m (x ∷ w)))

pub append-pieces : (rs ss : List Row) (st : List ℕ) → pieces_of (rs ++ ss) st ≡ pieces_of rs st ++ pieces_of ss (drop (total rs) st)
unfolding total
append-pieces [] ss st = refl
append-pieces (r ∷ rs) ss st =
    ap (λ (ps : List Piece). record { off = r.off; bytes = take r.len st } ∷ ps)
    (append-pieces rs ss (drop r.len st) ∙ ap (λ (d : List ℕ). pieces_of rs (drop r.len st) ++ pieces_of ss d) (drop-drop (total rs) r.len st))
