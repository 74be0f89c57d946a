-- The slots of a burst have their pieces' bytes: each lies where the first row with its offset has them.
-- Assumes nothing.
use mathlib.Core.Path.{◌≡◌, refl, sym, ap, ap₂, subst, ◌∙◌}
use mathlib.Core.List.{List, [], ◌∷◌, ◌++◌, map, append_assoc}
use mathlib.Core.Bool.{true, false≢true}
use Prim.Native.Nat.{ℕ, zero, suc, ◌+◌, ◌*◌, ◌≤◌}
use native.Mathlib.Nat.{zero-add, add-zero, add_assoc}
use native.Mathlib.Omega.{arith}
use lib.ListN.{length, take, drop, length-append}
use lib.Seq.{drop-drop}
use lib.Dec.{eqb}
use borrow.Author.Tests.{eq-eqb}
use Rattle.harq.specs.declared.Harq.{Harq}
use Rattle.laws.specs.Bytes.{part}
use Rattle.laws.specs.Lists.{listed, occurs, AllListed}
use Rattle.laws.proofs.Bytes.{length_part}
use Rattle.laws.proofs.Lists.{occurs-append, one_none, one_same}
use Rattle.laws.proofs.Picks.{by, by₂, test}
use Rattle.frame.specs.Frame.{max_payload, frame_of}
use Rattle.frame.proofs.Laws.{length-frame}
use Rattle.frames.specs.Frames.{frames_written, SlotsFit}
use Rattle.area.specs.declared.table.Row.{Row}
use Rattle.area.specs.Table.{total}
use Rattle.area.specs.Find.{find_from}
use Rattle.area.specs.declared.lookup.Found.{Found}
use Rattle.area.proofs.lookup.Laws.{find-within}
use Rattle.area_check.specs.Rows.{row_offs}
use Rattle.frames.specs.Slots.{unheld_slots, increment_slots}
use Rattle.frames.specs.declared.slots.Slot.{Slot}
use Rattle.ledger.specs.Ledger.{Piece, Sent, Frame, end, find}
use Rattle.pieces.specs.Pieces.{pieces_of}
use Rattle.pieces.specs.Burst.{frames_sent}
use Rattle.pieces.proofs.Sound.{head-length, total-append}
use Rattle.ledger.specs.CoverCode.{Ascend}
use Rattle.ledger.specs.LedgerCode.{frames}
use Rattle.area.specs.FindCode.{bytes_at}
use Rattle.pieces.specs.BurstCode.{Placed}
use Rattle.pieces.specs.ListsCode.{sent_slots}

-- ---- what is found

-- the bytes that are found are the piece's
pub found-bytes : (o at : ℕ) (a : List ℕ) (rs : List Row) → bytes_at a (find_from o at rs) ≡ find o (pieces_of rs (drop at a))
unfolding find_from
found-bytes o at a [] = refl
found-bytes o at a (r ∷ rs) =
    by₂ (λ (f : Found) (bs : List ℕ). bytes_at a f ≡ bs) (eqb o r.off)
    (λ e. refl)
    (λ e. found-bytes o (at + r.len) a rs ∙ ap (λ (d : List ℕ). find o (pieces_of rs d)) (sym (drop-drop r.len at a)))

pub found-len : (o at : ℕ) (rs : List Row) (st : List ℕ) → total rs ≤ length st → (find_from o at rs).len ≡ length (find o (pieces_of rs st))
unfolding find_from
found-len o at [] st h = refl
found-len o at (r ∷ rs) st h =
    let e = head-length r rs st h in
    by₂ (λ (f : Found) (bs : List ℕ). f.len ≡ length bs) (eqb o r.off) (λ t. sym e.0) (λ t. found-len o (at + r.len) rs (drop r.len st) e.1)

-- a row's offset is found
pub found_here : (o at : ℕ) (rs : List Row) → listed o (row_offs rs) ≡ true → (find_from o at rs).here ≡ true
unfolding find_from
found_here o at [] h = absurd (false≢true h)
found_here o at (r ∷ rs) h =
    by (λ (f : Found). f.here ≡ true) (eqb o r.off) (λ e. refl) (λ e. found_here o (at + r.len) rs (rw e at h))

-- further rows change nothing
found-more : (o at : ℕ) (rs ss : List Row) → (find_from o at rs).here ≡ true → find_from o at (rs ++ ss) ≡ find_from o at rs
unfolding find_from
found-more o at [] ss h = absurd (false≢true h)
found-more o at (r ∷ rs) ss h =
    test (eqb o r.off) (λ e. rw e refl) (λ e. rw e (found-more o (at + r.len) rs ss (rw e at h)))

-- rows with other offsets are passed over
found-behind : (o at : ℕ) (rs ss : List Row) → occurs o (row_offs rs) ≡ 0 → find_from o at (rs ++ ss) ≡ find_from o (at + total rs) ss
unfolding find_from total
found-behind o at [] ss h = ap (λ (k : ℕ). find_from o k ss) (sym (add-zero at))
found-behind o at (r ∷ rs) ss h =
    let e = one_none (eqb o r.off) (omega arith) in
    rw e (found-behind o (at + r.len) rs ss (omega arith) ∙ ap (λ (k : ℕ). find_from o k ss) (add_assoc at r.len (total rs)))

found_first : (at : ℕ) (r : Row) (rs : List Row) → find_from r.off at (r ∷ rs) ≡ record { here = true; start = at; len = r.len }
unfolding find_from
found_first at r rs = rw (eq-eqb r.off r.off refl) refl

-- ---- lists of slots

pub placed-append : (rs : List Row) (xs ys : List Slot) → Placed rs xs → Placed rs ys → Placed rs (xs ++ ys)
placed-append rs [] ys p q = q
placed-append rs (x ∷ xs) ys p q = (p.0, placed-append rs xs ys p.1 q)

pub placed-take : (rs : List Row) (n : ℕ) (xs : List Slot) → Placed rs xs → Placed rs (take n xs)
placed-take rs zero xs p = tt
placed-take rs (suc n) [] p = tt
placed-take rs (suc n) (x ∷ xs) p = (p.0, placed-take rs n xs p.1)

pub placed-more : (rs ss : List Row) (xs : List Slot) → Placed rs xs → Placed (rs ++ ss) xs
placed-more rs ss [] p = tt
placed-more rs ss (x ∷ xs) p = (found-more x.off 0 rs ss (ap (λ (f : Found). f.here) p.0) ∙ p.0, placed-more rs ss xs p.1)

-- ---- increments

pub placed-increments : (q : Harq) (b : ℕ) (rs : List Row) (os hs : List ℕ) → AllListed os (row_offs rs) → Placed rs (increment_slots q b rs os hs)
unfolding increment_slots
placed-increments q b rs [] hs l = tt
placed-increments q b rs (o ∷ os) [] l = tt
placed-increments q b rs (o ∷ os) (h ∷ hs) l =
    ((λ i. record { here = found_here o 0 rs l.0 i; start = (find_from o 0 rs).start; len = (find_from o 0 rs).len }), placed-increments q b rs os hs l.1)

-- ---- whole pieces

pub row_offs-append : (rs ss : List Row) → row_offs (rs ++ ss) ≡ row_offs rs ++ row_offs ss
row_offs-append [] ss = refl
row_offs-append (r ∷ rs) ss = ap (λ (l : List ℕ). r.off ∷ l) (row_offs-append rs ss)

-- rows with distinct offsets, of which the last ones go
pub placed-unheld : (held : List ℕ) (b : ℕ) (pre rs : List Row) → ((o : ℕ) → occurs o (row_offs (pre ++ rs)) ≤ 1) → Placed (pre ++ rs) (unheld_slots held b (total pre) rs)
unfolding unheld_slots total
placed-unheld held b pre [] u = tt
placed-unheld held b pre (r ∷ rs) u =
    let e : (pre ++ (r ∷ [])) ++ rs ≡ pre ++ (r ∷ rs) = append_assoc pre (r ∷ []) rs in
    let t : total (pre ++ (r ∷ [])) ≡ total pre + r.len = total-append pre (r ∷ []) ∙ ap (λ (k : ℕ). total pre + k) (add-zero r.len) in
    let v : (o : ℕ) → occurs o (row_offs ((pre ++ (r ∷ [])) ++ rs)) ≤ 1 = rw e u in
    let i : Placed (pre ++ (r ∷ rs)) (unheld_slots held b (total pre + r.len) rs) =
    subst (λ (k : ℕ). Placed (pre ++ (r ∷ rs)) (unheld_slots held b k rs)) t (subst (λ (l : List Row). Placed l (unheld_slots held b (total (pre ++ (r ∷ []))) rs)) e (placed-unheld held b (pre ++ (r ∷ [])) rs v)) in
    let n : occurs r.off (row_offs pre) ≡ 0 =
    omega (arith, u r.off, ap (occurs r.off) (row_offs-append pre (r ∷ rs)), occurs-append r.off (row_offs pre) (row_offs (r ∷ rs)), one_same r.off r.off refl) in
    by (Placed (pre ++ (r ∷ rs))) (listed r.off held)
    (λ d. i)
    (λ d. (found-behind r.off 0 pre (r ∷ rs) n ∙ ap (λ (k : ℕ). find_from r.off k (r ∷ rs)) (zero-add (total pre)) ∙ found_first (total pre) r rs, i))

-- ---- what slots that are placed carry

-- the bytes of their pieces
pub placed-bytes : (a : List ℕ) (rs : List Row) (xs : List Slot) → Placed rs xs
    → map (λ (x : Slot). part a x.start x.len) xs ≡ map (λ (f : Sent). find f.off (pieces_of rs a)) (sent_slots xs)
placed-bytes a rs [] p = refl
placed-bytes a rs (x ∷ xs) p =
    ap₂ (λ (b : List ℕ) (l : List (List ℕ)). b ∷ l) (ap (bytes_at a) (sym p.0) ∙ found-bytes x.off 0 a rs) (placed-bytes a rs xs p.1)

-- so the frames carry them
pub placed-carry : (size : ℕ) (a : List ℕ) (rs : List Row) (xs : List Slot) → Placed rs xs → frames_written size xs a ≡ frames_sent size (pieces_of rs a) (sent_slots xs)
unfolding frames_written
placed-carry size a rs [] p = refl
placed-carry size a rs (x ∷ xs) p =
    ap₂ (λ (b l : List ℕ). frame_of size x.off b ++ l) (ap (bytes_at a) (sym p.0) ∙ found-bytes x.off 0 a rs) (placed-carry size a rs xs p.1)

-- as many as the piece has: the frames that the ledger tells
pub placed-frames : (a : List ℕ) (rs : List Row) (xs : List Slot) → total rs ≤ length a → Placed rs xs
    → frames (pieces_of rs a) (sent_slots xs) ≡ map (λ (x : Slot). record { off = x.off; len = x.len }) xs
placed-frames a rs [] h p = refl
placed-frames a rs (x ∷ xs) h p =
    ap₂ (λ (n : ℕ) (l : List Frame). record { off = x.off; len = n } ∷ l)
    (sym (found-len x.off 0 rs a h) ∙ ap (λ (f : Found). f.len) p.0) (placed-frames a rs xs h p.1)

find-most : (m k n o : ℕ) (ps : List Piece) → Ascend m k n ps → length (find o ps) ≤ m
find-most m k n o [] a = omega arith
find-most m k n o (p ∷ ps) a = by (λ (bs : List ℕ). length bs ≤ m) (eqb o p.off) (λ e. a.2) (λ e. find-most m (end p) n o ps a.3)

-- they fit frames of at least m bytes, and lie within the rows' bytes
pub placed-fit : (size m k n used : ℕ) (a : List ℕ) (rs : List Row) (xs : List Slot) → total rs ≤ length a → Ascend m k n (pieces_of rs a) → m ≤ max_payload size → total rs ≤ used
    → Placed rs xs → SlotsFit size used xs
placed-fit size m k n used a rs [] h s l u p = tt
placed-fit size m k n used a rs (x ∷ xs) h s l u p =
    let e = ap (λ (f : Found). f.start) p.0 in
    let d = ap (λ (f : Found). f.len) p.0 in (
      omega (arith, found-len x.off 0 rs a h, find-most m k n x.off (pieces_of rs a) s),
      omega (arith, find-within x.off 0 rs),
      placed-fit size m k n used a rs xs h s l u p.1,
    )

-- frames that fit have their size each
pub frames-length : (size : ℕ) (a : List ℕ) (xs : List Slot) → 10 ≤ size → SlotsFit size (length a) xs → length (frames_written size xs a) ≡ length xs * size
unfolding frames_written
frames-length size a [] h f = omega arith
frames-length size a (x ∷ xs) h f =
    let l : length (part a x.start x.len) ≡ x.len = length_part a x.start x.len f.1 in
    omega (
      arith,
      length-append (frame_of size x.off (part a x.start x.len)) (frames_written size xs a),
      length-frame size x.off (part a x.start x.len) (omega (arith, f.0)),
      frames-length size a xs h f.2,
    )
