-- Cutting and merging the rows cuts and merges the pieces that they hold, and leaves as many bytes.
-- Assumes nothing.
use mathlib.Core.Path.{◌≡◌, refl, sym, ap, ap₂, ◌∙◌}
use mathlib.Core.List.{List, [], ◌∷◌, ◌++◌}
use mathlib.Core.Bool.{Bool, true, false, cond, not, ◌&&◌}
use Prim.Native.Nat.{ℕ, zero, suc, ◌+◌, ◌-◌, ◌≤◌, ◌<◌}
use native.Mathlib.Omega.{arith}
use lib.ListN.{length, take, drop, length-drop}
use lib.Seq.{length-take-le, take-add, take-take, drop-drop, drop_at}
use lib.Dec.{leb, eqb}
use borrow.Author.Tests.{leb-false}
use Rattle.laws.specs.Lists.{listed}
use Rattle.laws.proofs.Picks.{by, by₂}
use Rattle.area.specs.declared.table.Row.{Row}
use Rattle.area.specs.Table.{total}
use Rattle.area.specs.Recut.{row, cut_rows, split_rows, joins_row, merge_rows_from, merge_rows}
use Rattle.ledger.specs.Ledger.{Piece, Plan, Sender, held_offs, cut, split, joins, merge_from, merge_inflight, kept_at_peer, recut}
use Rattle.pieces.specs.Pieces.{pieces_of}
use Rattle.pieces.proofs.Sound.{head-length, total-append}
use Rattle.pieces.specs.BurstCode.{recut_rows}

-- ---- cut

drop-taken : (m n : ℕ) (st : List ℕ) → m ≤ n → n ≤ length st → drop m (take n st) ≡ take (n - m) (drop m st)
drop-taken m n st h l =
    let e : n ≡ m + (n - m) = omega arith in
    ap (λ (k : ℕ). drop m (take k st)) e ∙ ap (drop m) (take-add m (n - m) st) ∙ drop_at (take m st) (take (n - m) (drop m st)) m (length-take-le m st (omega arith))

pub cut-pieces : (k m o n : ℕ) (rs : List Row) (st : List ℕ) → n ≤ length st → pieces_of (cut_rows k m o n ++ rs) st ≡ cut k m o (take n st) ++ pieces_of rs (drop n st)
unfolding cut_rows
cut-pieces zero m o n rs st h = refl
cut-pieces (suc k) m o n rs st h =
    by₂ (λ (xs : List Row) (ys : List Piece). pieces_of (xs ++ rs) st ≡ ys ++ pieces_of rs (drop n st)) (leb n m) (λ e. refl)
    (λ e.
    let l : m < n = leb-false n m e in
    let t : m + (n - m) ≡ n = omega arith in
    ap₂ (λ (b : List ℕ) (ps : List Piece). record { off = o; bytes = b } ∷ ps) (sym (take-take m n st (omega arith)))
    (cut-pieces k m (o + m) (n - m) rs (drop m st) (omega (arith, length-drop m st))
    ∙ ap₂ (λ (b d : List ℕ). cut k m (o + m) b ++ pieces_of rs d) (sym (drop-taken m n st (omega arith) h)) (drop-drop (n - m) m st ∙ ap (λ (j : ℕ). drop j st) t)))
    ∙ ap (λ (l : ℕ). cond (leb l m) (record { off = o; bytes = take n st } ∷ []) (record { off = o; bytes = take m (take n st) } ∷ cut k m (o + m) (drop m (take n st))) ++ pieces_of rs (drop n st))
    (sym (length-take-le n st h))

-- "Re-cut anything still in flight to this level's frame size"
pub split-pieces : (m : ℕ) (rs : List Row) (st : List ℕ) → total rs ≤ length st → pieces_of (split_rows m rs) st ≡ split m (pieces_of rs st)
unfolding split_rows total
split-pieces m [] st h = refl
split-pieces m (r ∷ rs) st h =
    let e = head-length r rs st h in
    cut-pieces r.len m r.off r.len (split_rows m rs) st (omega arith)
    ∙ ap₂ (λ (k : ℕ) (ps : List Piece). cut k m r.off (take r.len st) ++ ps) (sym e.0) (split-pieces m rs (drop r.len st) e.1)

cut-total : (k m o n : ℕ) → total (cut_rows k m o n) ≡ n
unfolding cut_rows total
cut-total zero m o n = omega arith
cut-total (suc k) m o n =
    by (λ (xs : List Row). total xs ≡ n) (leb n m) (λ e. omega arith) (λ e. omega (arith, leb-false n m e, cut-total k m (o + m) (n - m)))

pub split-total : (m : ℕ) (rs : List Row) → total (split_rows m rs) ≡ total rs
unfolding split_rows total
split-total m [] = refl
split-total m (r ∷ rs) =
    total-append (cut_rows r.len m r.off r.len) (split_rows m rs) ∙ ap₂ (λ (x y : ℕ). x + y) (cut-total r.len m r.off r.len) (split-total m rs)

-- ---- merged

and-swap : (a b c d : Bool) → (a && (b && (c && d))) ≡ ((c && d) && (a && b))
and-swap true true true true = refl
and-swap true true true false = refl
and-swap true true false d = refl
and-swap true false true true = refl
and-swap true false true false = refl
and-swap true false false d = refl
and-swap false b true true = refl
and-swap false b true false = refl
and-swap false b false d = refl

-- the piece of the first row
abbrev first : Row → List ℕ → Piece
first r st = record { off = r.off; bytes = take r.len st }

joins-pieces : (h : List ℕ) (m : ℕ) (p q : Row) (rs : List Row) (st : List ℕ) → total (p ∷ q ∷ rs) ≤ length st
    → joins_row h m p q ≡ joins h m (first p st) (first q (drop p.len st))
joins-pieces h m p q rs st l =
    let e = head-length p (q ∷ rs) st l in
    let f = head-length q rs (drop p.len st) e.1 in
    and-swap (eqb (p.off + p.len) q.off) (leb (p.len + q.len) m) (not (listed p.off h)) (not (listed q.off h))
    ∙ ap₂ (λ (x y : ℕ). (not (listed p.off h) && not (listed q.off h)) && (eqb (p.off + x) q.off && leb (x + y) m)) (sym e.0) (sym f.0)

pub merge-from-pieces : (h : List ℕ) (m : ℕ) (p : Row) (rs : List Row) (st : List ℕ) → total (p ∷ rs) ≤ length st
    → pieces_of (merge_rows_from h m p rs) st ≡ merge_from h m (first p st) (pieces_of rs (drop p.len st))
unfolding merge_rows_from total
merge-from-pieces h m p [] st l = refl
merge-from-pieces h m p (q ∷ rs) st l =
    let e = head-length p (q ∷ rs) st l in
    by₂ (λ (xs : List Row) (ys : List Piece). pieces_of xs st ≡ ys) (joins_row h m p q)
    (λ t. merge-from-pieces h m (row p.off (p.len + q.len)) rs st (omega arith)
    ∙ ap₂ (λ (b d : List ℕ). merge_from h m (record { off = p.off; bytes = b }) (pieces_of rs d)) (take-add p.len q.len st) (sym (drop-drop q.len p.len st)))
    (λ t. ap (λ (ps : List Piece). first p st ∷ ps) (merge-from-pieces h m q rs (drop p.len st) e.1))
    ∙ ap (λ (b : Bool). cond b (merge_from h m (record { off = p.off; bytes = take p.len st ++ take q.len (drop p.len st) }) (pieces_of rs (drop q.len (drop p.len st))))
    (first p st ∷ merge_from h m (first q (drop p.len st)) (pieces_of rs (drop q.len (drop p.len st))))) (joins-pieces h m p q rs st l)

pub merge-pieces : (h : List ℕ) (m : ℕ) (rs : List Row) (st : List ℕ) → total rs ≤ length st → pieces_of (merge_rows h m rs) st ≡ merge_inflight h m (pieces_of rs st)
unfolding merge_rows
merge-pieces h m [] st l = refl
merge-pieces h m (p ∷ rs) st l = merge-from-pieces h m p rs st l

merge-from-total : (h : List ℕ) (m : ℕ) (p : Row) (rs : List Row) → total (merge_rows_from h m p rs) ≡ total (p ∷ rs)
unfolding merge_rows_from total
merge-from-total h m p [] = refl
merge-from-total h m p (q ∷ rs) =
    by (λ (xs : List Row). total xs ≡ p.len + (q.len + total rs)) (joins_row h m p q)
    (λ t. merge-from-total h m (row p.off (p.len + q.len)) rs ∙ omega arith)
    (λ t. ap (λ (k : ℕ). p.len + k) (merge-from-total h m q rs))

pub merge-total : (h : List ℕ) (m : ℕ) (rs : List Row) → total (merge_rows h m rs) ≡ total rs
unfolding merge_rows
merge-total h m [] = refl
merge-total h m (p ∷ rs) = merge-from-total h m p rs

-- ---- both

pub recut-pieces : (g : Plan) (s : Sender) (os : List ℕ) (rs : List Row) (st : List ℕ) → total rs ≤ length st → held_offs (kept_at_peer g s) ≡ os → s.pieces ≡ pieces_of rs st
    → recut g s ≡ pieces_of (recut_rows g os rs) st
recut-pieces g s os rs st l h e =
    let t : split g.payload s.pieces ≡ pieces_of (split_rows g.payload rs) st = ap (split g.payload) e ∙ sym (split-pieces g.payload rs st l) in
    let n : total (split_rows g.payload rs) ≤ length st = omega (arith, split-total g.payload rs) in
    by₂ (λ (ps : List Piece) (xs : List Row). ps ≡ pieces_of xs st) g.merging
    (λ d. ap₂ (λ (o : List ℕ) (ps : List Piece). merge_inflight o g.payload ps) h t ∙ sym (merge-pieces os g.payload (split_rows g.payload rs) st n))
    (λ d. t)

pub recut-total : (g : Plan) (os : List ℕ) (rs : List Row) → total (recut_rows g os rs) ≡ total rs
recut-total g os rs =
    by (λ (xs : List Row). total xs ≡ total rs) g.merging (λ e. merge-total os g.payload (split_rows g.payload rs) ∙ split-total g.payload rs) (λ e. split-total g.payload rs)
