-- Settling: what an ack leaves, frame by frame, is what one pass over the listed offsets leaves.
-- Assumes nothing.
use mathlib.Core.Path.{◌≡◌, refl, sym, ap, ap₂, ◌∙◌}
use mathlib.Core.List.{List, [], ◌∷◌, ◌++◌}
use mathlib.Core.Bool.{Bool, cond, ◌||◌}
use Prim.Native.Nat.{ℕ, suc, ◌+◌, ◌≤◌, ◌<◌}
use native.Mathlib.Omega.{arith}
use lib.ListN.{length, take, drop, length-drop, length-append}
use lib.Seq.{drop-append-add, drop-drop}
use lib.Dec.{eqb}
use borrow.Author.Tests.{ne_eqb, eq-eqb, eqb-true, eqb-false}
use Rattle.laws.specs.Lists.{listed}
use Rattle.laws.proofs.Picks.{by, by₂}
use Rattle.area.specs.declared.table.Row.{Row}
use Rattle.area.specs.Table.{total}
use Rattle.area.specs.Removal.{kept_rows, kept_bytes}
use Rattle.ledger.specs.Ledger.{Piece, Sent, end, size, remove, remaining, acked_bytes}
use Rattle.ledger.proofs.Offsets.{ascend-remove}
use Rattle.ledger.proofs.Settle.{acked_bytes-remaining}
use Rattle.pieces.specs.Pieces.{pieces_of}
use Rattle.pieces.proofs.Sound.{head-length, size-rows}
use Rattle.pieces.proofs.Removed.{kept_pieces}
use Rattle.ledger.specs.CoverCode.{Ascend}
use Rattle.area.specs.TableCode.{Small}
use Rattle.pieces.specs.ListsCode.{acked_offs}
use Rattle.pieces.specs.PiecesCode.{unlisted_pieces}

-- ---- pieces

unlisted-none : (ps : List Piece) → unlisted_pieces [] ps ≡ ps
unlisted-none [] = refl
unlisted-none (p ∷ ps) = ap (λ (l : List Piece). p ∷ l) (unlisted-none ps)

-- an offset before the pieces takes none of them out
unlisted-low : (m k n o : ℕ) (xs : List ℕ) (ps : List Piece) → Ascend m k n ps → o < k → unlisted_pieces (o ∷ xs) ps ≡ unlisted_pieces xs ps
unlisted-low m k n o xs [] a l = refl
unlisted-low m k n o xs (p ∷ ps) a l =
    ap₂ (λ (b : Bool) (q : List Piece). cond (b || listed p.off xs) q (p ∷ q)) (ne_eqb p.off o (λ (e : p.off ≡ o). omega (arith, a.0))) (unlisted-low m (end p) n o xs ps a.3 (omega (arith, a.0)))

-- one offset more: the piece there goes first
unlisted-cons : (m k n o : ℕ) (xs : List ℕ) (ps : List Piece) → Ascend m k n ps → unlisted_pieces (o ∷ xs) ps ≡ unlisted_pieces xs (remove o ps)
unlisted-cons m k n o xs [] a = refl
unlisted-cons m k n o xs (p ∷ ps) a =
    by (λ (q : List Piece). unlisted_pieces (o ∷ xs) (p ∷ ps) ≡ unlisted_pieces xs q) (eqb o p.off)
    (λ e.
    let q = eqb-true o p.off e in
    ap (λ (b : Bool). cond (b || listed p.off xs) (unlisted_pieces (o ∷ xs) ps) (p ∷ unlisted_pieces (o ∷ xs) ps)) (eq-eqb p.off o (sym q))
    ∙ unlisted-low m (end p) n o xs ps a.3 (omega (arith, a.1)))
    (λ e.
    ap₂ (λ (b : Bool) (q : List Piece). cond (b || listed p.off xs) q (p ∷ q)) (ne_eqb p.off o (λ (q : p.off ≡ o). eqb-false o p.off e (sym q))) (unlisted-cons m (end p) n o xs ps a.3))

pub remaining-unlisted : (b : ℕ → Bool) (m n i : ℕ) (fs : List Sent) (ps : List Piece) → Ascend m 0 n ps → remaining b i fs ps ≡ unlisted_pieces (acked_offs b i fs) ps
remaining-unlisted b m n i [] ps a = sym (unlisted-none ps)
remaining-unlisted b m n i (f ∷ fs) ps a =
    by₂ (λ (r : List Piece) (xs : List ℕ). remaining b (suc i) fs r ≡ unlisted_pieces xs ps) (b i)
    (λ e. remaining-unlisted b m n (suc i) fs (remove f.off ps) (ascend-remove m 0 n f.off ps a) ∙ sym (unlisted-cons m 0 n f.off (acked_offs b (suc i) fs) ps a))
    (λ e. remaining-unlisted b m n (suc i) fs ps a)

-- ---- rows and bytes

pub kept-total : (xs : List ℕ) (rs : List Row) → total (kept_rows xs rs) ≤ total rs
unfolding kept_rows total
kept-total xs [] = omega arith
kept-total xs (r ∷ rs) =
    let i = kept-total xs rs in
    by (λ (q : List Row). total q ≤ r.len + total rs) (listed r.off xs) (λ e. omega arith) (λ e. omega arith)

pub kept-few : (xs : List ℕ) (rs : List Row) → length (kept_rows xs rs) ≤ length rs
unfolding kept_rows
kept-few xs [] = omega arith
kept-few xs (r ∷ rs) =
    let i = kept-few xs rs in
    by (λ (q : List Row). length q ≤ suc (length rs)) (listed r.off xs) (λ e. omega arith) (λ e. omega arith)

pub kept_small : (xs : List ℕ) (rs : List Row) → Small rs → Small (kept_rows xs rs)
unfolding kept_rows
kept_small xs [] s = tt
kept_small xs (r ∷ rs) s = let i = kept_small xs rs s.2 in by Small (listed r.off xs) (λ e. i) (λ e. (s.0, s.1, i))

-- the bytes behind the pieces stay behind them
pub kept-waiting : (xs : List ℕ) (rs : List Row) (st : List ℕ) → total rs ≤ length st → drop (total (kept_rows xs rs)) (kept_bytes xs rs st) ≡ drop (total rs) st
unfolding kept_rows kept_bytes total
kept-waiting xs [] st h = refl
kept-waiting xs (r ∷ rs) st h =
    let e = head-length r rs st h in
    let i = kept-waiting xs rs (drop r.len st) e.1 ∙ drop-drop (total rs) r.len st in
    by₂ (λ (q : List Row) (bs : List ℕ). drop (total q) bs ≡ drop (r.len + total rs) st) (listed r.off xs)
    (λ t. i)
    (λ t. ap (λ (k : ℕ). drop (k + total (kept_rows xs rs)) (take r.len st ++ kept_bytes xs rs (drop r.len st))) (sym e.0)
    ∙ drop-append-add (take r.len st) (kept_bytes xs rs (drop r.len st)) (total (kept_rows xs rs)) ∙ i)

pub kept-length : (xs : List ℕ) (rs : List Row) (st : List ℕ) → total rs ≤ length st → length (kept_bytes xs rs st) + total rs ≡ length st + total (kept_rows xs rs)
unfolding kept_rows kept_bytes total
kept-length xs [] st h = refl
kept-length xs (r ∷ rs) st h =
    let e = head-length r rs st h in
    let i = kept-length xs rs (drop r.len st) e.1 in
    by₂ (λ (q : List Row) (bs : List ℕ). length bs + (r.len + total rs) ≡ length st + total q) (listed r.off xs)
    (λ t. omega (arith, length-drop r.len st))
    (λ t. omega (arith, length-drop r.len st, length-append (take r.len st) (kept_bytes xs rs (drop r.len st)), e.0))

-- ---- settled

module _ (b : ℕ → Bool) (m n i : ℕ) (fs : List Sent) (rs : List Row) (st : List ℕ) (h : total rs ≤ length st) where
  -- what stays holds the remaining pieces
  pub settled-pieces : Ascend m 0 n (pieces_of rs st) → pieces_of (kept_rows (acked_offs b i fs) rs) (kept_bytes (acked_offs b i fs) rs st) ≡ remaining b i fs (pieces_of rs st)
  settled-pieces a = kept_pieces (acked_offs b i fs) rs st h ∙ sym (remaining-unlisted b m n i fs (pieces_of rs st) a)

  settled-fits : total (kept_rows (acked_offs b i fs) rs) ≤ length (kept_bytes (acked_offs b i fs) rs st)
  settled-fits = omega (arith, kept-length (acked_offs b i fs) rs st h)

  pub settled-size : Ascend m 0 n (pieces_of rs st) → size (remaining b i fs (pieces_of rs st)) ≡ total (kept_rows (acked_offs b i fs) rs)
  settled-size a = ap size (sym (settled-pieces a)) ∙ size-rows (kept_rows (acked_offs b i fs) rs) (kept_bytes (acked_offs b i fs) rs st) settled-fits

  -- acknowledged bytes are those that fly no more
  pub settled-bytes : Ascend m 0 n (pieces_of rs st) → acked_bytes b i fs (pieces_of rs st) + total (kept_rows (acked_offs b i fs) rs) ≡ total rs
  settled-bytes a = omega (arith, acked_bytes-remaining m n b i fs (pieces_of rs st), settled-size a, size-rows rs st h)
