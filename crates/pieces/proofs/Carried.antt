-- A burst out of a sound record: its rows hold the ledger's pieces, and each slot has its piece's bytes.
-- Assumes nothing.
use mathlib.Core.Path.{◌≡◌, refl, sym, ap, ap₂, subst, ◌∙◌}
use mathlib.Core.List.{List, [], ◌∷◌, ◌++◌, map}
use Prim.Native.Nat.{ℕ, zero, suc, ◌+◌, ◌-◌, ◌≤◌}
use native.Mathlib.Omega.{arith}
use lib.ListN.{length, take, drop}
use lib.Seq.{take-take, take-nil, drop-drop}
use lib.Dec.{eqb, ltb}
use borrow.Author.Tests.{ltb-true, ltb-false}
use Rattle.harq.specs.declared.Harq.{Harq}
use Rattle.harq.specs.Held.{increment_of}
use Rattle.laws.specs.Bytes.{part}
use Rattle.laws.specs.Lists.{occurs, AllListed}
use Rattle.laws.proofs.Bytes.{length_part}
use Rattle.laws.proofs.Lists.{occurs-append, occurs-all, one-other}
use Rattle.laws.proofs.Picks.{by, test}
use Rattle.frame.specs.Frame.{max_payload}
use Rattle.frames.specs.Frames.{frames_written, SlotsFit}
use Rattle.area.specs.declared.table.Row.{Row}
use Rattle.area.specs.Table.{total}
use Rattle.area_check.specs.Rows.{row_offs}
use Rattle.frames.specs.Slots.{unheld_slots, increment_slots}
use Rattle.frames.specs.declared.slots.Slot.{Slot}
use Rattle.frames.proofs.slots.Laws.{chunk-total}
use Rattle.ledger.specs.Ledger.{Piece, Plan, Sender, Sent, Held, end, size, offs, held_offs, find, kept_at_peer, recut, old_offs, new_pieces, data_burst}
use Rattle.ledger.specs.Sound.{Sound, Fits}
use Rattle.ledger.proofs.Burst.{burst-sound, burst-ascend}
use Rattle.ledger.proofs.Cover.{ascend-le, ascend-chunks}
use Rattle.ledger.proofs.Offsets.{offs-append, occurs-low, occurs-once, flying-within}
use Rattle.pieces.specs.Pieces.{pieces_of}
use Rattle.pieces.specs.Lists.{held_of}
use Rattle.pieces.specs.Burst.{frames_sent}
use Rattle.pieces.proofs.Sound.{offs-rows, size-rows, total-append}
use Rattle.pieces.proofs.Lists.{sent_slots-length}
use Rattle.pieces.proofs.Chunks.{append-pieces}
use Rattle.pieces.proofs.Room.{payload-some}
use Rattle.pieces.proofs.Burst.{kept-offs, burst-new, burst-slots}
use Rattle.pieces.proofs.Placed.{placed-append, placed-take, placed-more, placed-increments, placed-unheld, placed-bytes, placed-carry, placed-frames, placed-fit, row_offs-append}
use Rattle.limits.specs.Limits.{max_slots}
use Rattle.ledger.specs.Sizes.{Sizes}
use Rattle.ledger.specs.CoverCode.{Ascend}
use Rattle.ledger.specs.LedgerCode.{frames}
use Rattle.ledger.specs.SizesCode.{SizeRange}
use Rattle.pieces.specs.BurstCode.{old_slots, new_rows, new_slots, burst_slots, Placed}
use Rattle.pieces.specs.ListsCode.{sent_slots}

-- ---- pieces out of a longer stream

drop-take : (m n : ℕ) (l : List ℕ) → m ≤ n → drop m (take n l) ≡ take (n - m) (drop m l)
drop-take zero n l h = ap (λ (k : ℕ). take k l) (let e : n ≡ n - 0 = omega arith in e)
drop-take (suc m) zero l h = absurd (omega arith)
drop-take (suc m) (suc n) [] h = sym (take-nil (suc n - suc m))
drop-take (suc m) (suc n) (x ∷ l) h = drop-take m n l (omega arith) ∙ ap (λ (k : ℕ). take k (drop m l)) (let e : n - m ≡ suc n - suc m = omega arith in e)

-- bytes past the rows' own change nothing
pub pieces-take : (rs : List Row) (st : List ℕ) (n : ℕ) → total rs ≤ n → pieces_of rs (take n st) ≡ pieces_of rs st
unfolding total
pieces-take [] st n h = refl
pieces-take (r ∷ rs) st n h =
    ap₂ (λ (b : List ℕ) (ps : List Piece). record { off = r.off; bytes = b } ∷ ps) (take-take r.len n st (omega arith))
    (ap (pieces_of rs) (drop-take r.len n st (omega arith)) ∙ pieces-take rs (drop r.len st) (n - r.len) (omega arith))

-- ---- held pieces fly among the re-cut pieces

all_take : (n : ℕ) (xs os : List ℕ) → AllListed xs os → AllListed (take n xs) os
all_take zero xs os a = tt
all_take (suc n) [] os a = tt
all_take (suc n) (x ∷ xs) os a = (a.0, all_take n xs os a.1)

-- no piece starts at the end or past it
occurs-high : (m k n o : ℕ) (ps : List Piece) → Ascend m k n ps → n ≤ o → occurs o (offs ps) ≡ 0
occurs-high m k n o [] a h = refl
occurs-high m k n o (p ∷ ps) a h =
    let i = occurs-high m (end p) n o ps a.3 h in
    let l = ascend-le m (end p) n ps a.3 in
    omega (arith, one-other o p.off (λ (e : o ≡ p.off). omega (arith, a.1)))

module _ (z : Sizes) (zr : SizeRange z) (s : Sender) (g : Plan) (so : Sound z s) (fi : Fits z s g) where
  kept-held : (o : ℕ) → occurs o (held_offs (kept_at_peer g s)) ≤ occurs o (held_offs s.held)
  kept-held o = by (λ (r : List Held). occurs o (held_offs r) ≤ occurs o (held_offs s.held)) (eqb g.parity 0) (λ e. omega arith) (λ e. omega arith)

  kept-all : (o : ℕ) → occurs o (held_offs (kept_at_peer g s)) ≤ occurs o (offs (recut g s)) + occurs o (offs (new_pieces g s))
  unfolding data_burst
  kept-all o =
      omega (
        arith,
        flying-within (held_offs (kept_at_peer g s)) (recut g s ++ new_pieces g s) (burst-sound z zr s g so fi).held_flying o,
        ap (occurs o) (offs-append (recut g s) (new_pieces g s)),
        occurs-append o (offs (recut g s)) (offs (new_pieces g s)),
      )

  pub kept-flies : AllListed (held_offs (kept_at_peer g s)) (offs (recut g s))
  kept-flies =
      occurs-all (offs (recut g s)) (held_offs (kept_at_peer g s))
      (λ o.
      test (ltb o s.next)
      (λ e. omega (arith, kept-all o, occurs-low g.payload s.next _ o (new_pieces g s) (ascend-chunks (g.room - length (old_offs g s)) g.payload s.next s.waiting (payload-some z zr s g so fi)) (ltb-true o s.next e)))
      (λ e. omega (arith, kept-held o, flying-within (held_offs s.held) s.pieces so.held_flying o, occurs-high z.long 0 s.next o s.pieces so.ascend (ltb-false o s.next e))))

  -- ---- the rows hold the re-cut pieces, os and hs are the held list that is kept, and w bytes wait behind the flying ones
  module _ (rs : List Row) (a os hs : List ℕ) (w : ℕ) (pieces : recut g s ≡ pieces_of rs a) (held : kept_at_peer g s ≡ held_of os hs) (sides : length os ≡ length hs)
      (waiting : s.waiting ≡ part a (total rs) w) (fits : total rs + w ≤ length a) where
    abbrev new : List Row
    new = new_rows g rs os s.next w

    pub waiting-count : length s.waiting ≡ w
    waiting-count = ap length waiting ∙ length_part a (total rs) w fits

    new-fits : total new ≤ w
    new-fits = chunk-total (g.room - length (old_slots g rs os)) g.payload s.next w

    -- as many bytes as the ledger takes
    pub burst-taken : total new ≡ size (new_pieces g s)
    burst-taken =
        sym (size-rows new s.waiting (omega (arith, waiting-count, new-fits))) ∙ ap size (burst-new g s rs a os hs w pieces held sides waiting-count)

    pub burst-fits : total (rs ++ new) ≤ total rs + w
    burst-fits = omega (arith, total-append rs new, new-fits)

    -- the rows and the stream hold the pieces that fly then
    pub burst-pieces : pieces_of (rs ++ new) a ≡ (data_burst g s).pieces
    unfolding data_burst
    burst-pieces =
        append-pieces rs new a
        ∙ ap₂ (λ (x y : List Piece). x ++ y) (sym pieces)
        (sym (pieces-take new (drop (total rs) a) w new-fits) ∙ ap (pieces_of new) (sym waiting) ∙ burst-new g s rs a os hs w pieces held sides waiting-count)

    -- and the bytes that wait then lie behind them
    pub burst-waiting : (data_burst g s).waiting ≡ part a (total (rs ++ new)) (w - total new)
    unfolding data_burst
    burst-waiting =
        ap₂ (λ (k : ℕ) (l : List ℕ). drop k l) (sym burst-taken) waiting ∙ drop-take (total new) w (drop (total rs) a) new-fits
        ∙ ap (take (w - total new)) (drop-drop (total new) (total rs) a ∙ ap (λ (k : ℕ). drop k a) (sym (total-append rs new)))

    pub burst-next : (data_burst g s).next ≡ s.next + total new
    unfolding data_burst
    burst-next = ap (λ (k : ℕ). s.next + k) (sym burst-taken)

    burst-once : (o : ℕ) → occurs o (row_offs (rs ++ new)) ≤ 1
    burst-once o =
        omega (
          arith,
          occurs-once g.payload 0 (data_burst g s).next o (data_burst g s).pieces (burst-ascend z zr s g so fi),
          ap (λ (ps : List Piece). occurs o (offs ps)) (sym burst-pieces),
          ap (occurs o) (offs-rows (rs ++ new) a),
        )

    kept-rows : AllListed os (row_offs rs)
    kept-rows =
        subst (AllListed os) (ap offs pieces ∙ offs-rows rs a) (subst (λ (l : List ℕ). AllListed l (offs (recut g s))) (kept-offs g s rs a os hs w pieces held sides waiting-count) kept-flies)

    module _ (q : Harq) where
      abbrev xs : List Slot
      xs = burst_slots g rs os q hs s.next w

      rows-once : (o : ℕ) → occurs o (row_offs rs) ≤ 1
      rows-once o = omega (arith, burst-once o, ap (occurs o) (row_offs-append rs new), occurs-append o (row_offs rs) (row_offs new))

      pub burst-placed : Placed (rs ++ new) xs
      unfolding total
      burst-placed =
          let parity = increment_slots q g.slot rs (take g.parity os) (take g.parity hs) in
          let old = old_slots g rs os in
          let fresh = new_slots g rs os s.next w in
          placed-append (rs ++ new) parity (old ++ fresh)
          (placed-more rs new parity (placed-increments q g.slot rs (take g.parity os) (take g.parity hs) (all_take g.parity os (row_offs rs) kept-rows)))
          (placed-append (rs ++ new) old fresh (placed-more rs new old (placed-take rs g.room (unheld_slots os g.slot 0 rs) (placed-unheld os g.slot [] rs rows-once)))
          (placed-unheld [] g.slot rs new burst-once))

      module _ (e : (h : ℕ) → g.increment h ≡ increment_of q h g.slot) where
        pub burst-sent : sent_slots xs ≡ (data_burst g s).sent
        unfolding data_burst
        burst-sent = burst-slots g s rs a os hs w pieces held sides waiting-count q e

        pub burst-few : length xs ≤ max_slots
        unfolding data_burst
        burst-few = omega (arith, (burst-sound z zr s g so fi).out_few, sent_slots-length xs, ap length burst-sent)

        -- each slot has the bytes of its frame's piece
        pub burst-bytes : map (λ (x : Slot). part a x.start x.len) xs ≡ map (λ (f : Sent). find f.off (data_burst g s).pieces) (data_burst g s).sent
        burst-bytes =
            placed-bytes a (rs ++ new) xs burst-placed
            ∙ ap₂ (λ (ps : List Piece) (fs : List Sent). map (λ (f : Sent). find f.off ps) fs) burst-pieces burst-sent

        pub burst-carry : (size : ℕ) → frames_written size xs a ≡ frames_sent size (data_burst g s).pieces (data_burst g s).sent
        burst-carry size = placed-carry size a (rs ++ new) xs burst-placed ∙ ap₂ (frames_sent size) burst-pieces burst-sent

        -- and its length: the frames as the answer tells them
        pub burst-frames : frames (data_burst g s).pieces (data_burst g s).sent ≡ map (λ (x : Slot). record { off = x.off; len = x.len }) xs
        burst-frames =
            ap₂ frames (sym burst-pieces) (sym burst-sent) ∙ placed-frames a (rs ++ new) xs (omega (arith, burst-fits, fits)) burst-placed

      -- slots fit frames that have room for the payload, and lie within the stream
      pub burst-fit : (size used : ℕ) → g.payload ≤ max_payload size → total rs + w ≤ used → SlotsFit size used xs
      burst-fit size used l u =
          placed-fit size g.payload 0 (data_burst g s).next used a (rs ++ new) xs (omega (arith, burst-fits, fits))
          (subst (Ascend g.payload 0 (data_burst g s).next) (sym burst-pieces) (burst-ascend z zr s g so fi)) l (omega (arith, burst-fits)) burst-placed
