-- Room for what a burst writes, out of a sound record: rows in the table, slots, and u32 fields.
-- Assumes nothing.
use mathlib.Core.Logic.{⊎_elim}
use mathlib.Core.Path.{◌≡◌, refl, sym, ap, ◌∙◌}
use mathlib.Core.List.{List, [], ◌∷◌, ◌++◌, map}
use Prim.Native.Nat.{ℕ, zero, suc, ◌+◌, ◌-◌, ◌≤◌, ◌<◌}
use native.Mathlib.Nat.{add-zero}
use native.Mathlib.Omega.{arith}
use lib.ListN.{length, take, length-append, length-take}
use lib.Dec.{ltb}
use borrow.Author.Tests.{ltb-true, ltb-false}
use Rattle.harq.specs.declared.Harq.{Harq}
use Rattle.laws.proofs.Picks.{test}
use Rattle.area.specs.declared.table.Row.{Row}
use Rattle.area.specs.Table.{row_at, rows_from, total}
use Rattle.area.specs.Recut.{split_rows}
use Rattle.frames.specs.Slots.{increment_slots}
use Rattle.frames.proofs.slots.Laws.{increments-length}
use Rattle.ledger.specs.Ledger.{Piece, Plan, Sender, end, held_offs, unheld, split, kept_at_peer, recut, old_offs, new_pieces, data_burst}
use Rattle.ledger.specs.Sound.{Sound, Fits}
use Rattle.ledger.proofs.Burst.{burst-sound, burst-ascend}
use Rattle.ledger.proofs.Cover.{ascend-le, ascend-split, split-fits}
use Rattle.ledger.proofs.HeldPieces.{pieces-few, length-held_offs}
use Rattle.ledger.proofs.ShortFrames.{pieces-short_frames, short_frames-split}
use Rattle.pieces.specs.Pieces.{pieces_of}
use Rattle.pieces.specs.Lists.{held_of}
use Rattle.pieces.proofs.Sound.{head-length, length-pieces}
use Rattle.pieces.proofs.Lists.{held-length}
use Rattle.pieces.proofs.Recut.{split-pieces}
use Rattle.pieces.proofs.Burst.{burst-old-count}
use Rattle.limits.specs.Limits.{max_pieces, max_slots, max_taken}
use Rattle.ledger.specs.Sizes.{Sizes}
use Rattle.ledger.specs.CoverCode.{Ascend, short_frames}
use Rattle.ledger.specs.SizesCode.{SizeRange}
use Rattle.area.specs.TableCode.{Small}
use Rattle.pieces.specs.BurstCode.{old_slots}

-- ---- u32 fields

-- pieces that end by the most bytes taken
pub ascend-small : (m k n : ℕ) (ps : List Piece) → Ascend m k n ps → n ≤ max_taken → Small (map (λ (p : Piece). record { off = p.off; len = length p.bytes }) ps)
ascend-small m k n [] a h = tt
ascend-small m k n (p ∷ ps) a h =
    let l = ascend-le m (end p) n ps a.3 in
    (omega arith, omega arith, ascend-small m (end p) n ps a.3 h)

pub rows-small : (m k n : ℕ) (rs : List Row) (st : List ℕ) → total rs ≤ length st → Ascend m k n (pieces_of rs st) → n ≤ max_taken → Small rs
rows-small m k n [] st t a h = tt
rows-small m k n (r ∷ rs) st t a h =
    let e = head-length r rs st t in
    let l = ascend-le m _ n (pieces_of rs _) a.3 in
    (omega (arith, e.0), omega (arith, e.0), rows-small m (r.off + length (take r.len st)) n rs _ e.1 a.3 h)

-- each row ends by n
pub rows-within : (m k n j c : ℕ) (a st : List ℕ) → total (rows_from a j c) ≤ length st → Ascend m k n (pieces_of (rows_from a j c) st) → (i : ℕ) → i < c → (row_at a (j + i)).off + (row_at a (j + i)).len ≤ n
rows-within m k n j zero a st t s i h = absurd (omega arith)
rows-within m k n j (suc c) a st t s zero h =
    let e = head-length (row_at a j) (rows_from a (j + 1) c) st t in
    let l = ascend-le m _ n (pieces_of (rows_from a (j + 1) c) _) s.3 in
    let b : (row_at a j).off + (row_at a j).len ≤ n = omega (arith, e.0) in
    rw (add-zero j) b
rows-within m k n j (suc c) a st t s (suc i) h =
    let e = head-length (row_at a j) (rows_from a (j + 1) c) st t in
    let q : j + suc i ≡ j + 1 + i = omega arith in
    rw q (rows-within m ((row_at a j).off + length (take (row_at a j).len st)) n (j + 1) c a _ e.1 s.3 i (omega arith))

-- ---- rows in the table

ascend-front : (m k n : ℕ) (ps qs : List Piece) → Ascend m k n (ps ++ qs) → Ascend m k n ps
ascend-front m k n [] qs a = ascend-le m k n qs a
ascend-front m k n (p ∷ ps) qs a = (a.0, a.1, a.2, ascend-front m (end p) n ps qs a.3)

module _ (z : Sizes) (zr : SizeRange z) (s : Sender) (g : Plan) (so : Sound z s) (fi : Fits z s g) where
  short-some : 1 ≤ z.short
  short-some = omega (arith, zr.least)

  pub payload-some : 1 ≤ g.payload
  payload-some = ⊎_elim (λ e. omega (arith, short-some)) (λ e. omega (arith, short-some, zr.order)) fi.payload

  split-shorts : short_frames z.short (split g.payload s.pieces) ≤ max_pieces
  split-shorts =
      ⊎_elim (λ e. rw e (omega (arith, short_frames-split z.short short-some s.pieces, so.shorts)))
      (λ e. rw (split-fits g.payload 0 s.next s.pieces (rw e so.ascend)) so.shorts) fi.payload

  -- the rows that are cut fit the table
  pub split-few : (rs : List Row) (st : List ℕ) → total rs ≤ length st → s.pieces ≡ pieces_of rs st → length (split_rows g.payload rs) ≤ max_pieces
  split-few rs st t e =
      omega (
        arith,
        length-pieces (split_rows g.payload rs) st,
        ap length (split-pieces g.payload rs st t ∙ ap (split g.payload) (sym e)),
        pieces-short_frames z.short short-some g.payload 0 s.next (split g.payload s.pieces) (ascend-split g.payload z.long 0 s.next s.pieces payload-some so.ascend),
        split-shorts,
      )

  -- and so do the pieces of the burst
  pub burst-rows : length (recut g s) + length (new_pieces g s) ≤ max_pieces
  unfolding data_burst
  burst-rows =
      let b = burst-sound z zr s g so fi in
      omega (arith, length-append (recut g s) (new_pieces g s), pieces-short_frames z.short short-some z.long 0 (s.next + _) (recut g s ++ new_pieces g s) b.ascend, b.shorts)

  recut-ascend : Ascend g.payload 0 (data_burst g s).next (recut g s)
  unfolding data_burst
  recut-ascend = ascend-front g.payload 0 _ (recut g s) (new_pieces g s) (burst-ascend z zr s g so fi)

  -- with as many new rows as there is room for: new pieces go only where every unheld piece goes
  pub recut-room : length (recut g s) + (g.room - length (old_offs g s)) ≤ max_pieces
  recut-room =
      test (ltb (length (old_offs g s)) g.room)
      (λ e.
      omega (
        arith,
        ltb-true (length (old_offs g s)) g.room e,
        length-take g.room (unheld (held_offs (kept_at_peer g s)) (recut g s)),
        pieces-few g.payload 0 (data_burst g s).next (held_offs (kept_at_peer g s)) (recut g s) recut-ascend,
        length-held_offs (kept_at_peer g s),
        fi.room,
      ))
      (λ e. omega (arith, ltb-false (length (old_offs g s)) g.room e, burst-rows))

  -- ---- the rows hold the re-cut pieces, and os and hs are the held list that is kept
  module _ (rs : List Row) (st os hs : List ℕ) (pieces : recut g s ≡ pieces_of rs st) (held : kept_at_peer g s ≡ held_of os hs) (sides : length os ≡ length hs) where
    recut-count : length (recut g s) ≡ length rs
    recut-count = ap length pieces ∙ length-pieces rs st

    old-count : length (old_slots g rs os) ≡ length (old_offs g s)
    old-count = burst-old-count g s rs st os hs (length s.waiting) pieces held sides refl

    pub table-few : length rs ≤ max_pieces
    table-few = omega (arith, recut-count, burst-rows)

    pub table-room : length rs + (g.room - length (old_slots g rs os)) ≤ max_pieces
    table-room = omega (arith, recut-count, old-count, recut-room)
