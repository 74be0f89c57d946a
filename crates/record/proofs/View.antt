-- What is written is read back, and writing what is there changes nothing.
-- Assumes nothing.
use mathlib.Core.Path.{◌≡◌, refl, sym, ap, ap₂, ◌∙◌}
use mathlib.Core.List.{List, [], ◌∷◌, ◌++◌, map, append_assoc}
use Prim.Native.Nat.{ℕ, zero, suc, ◌+◌, ◌-◌, ◌*◌, ◌^◌, ◌≤◌, ◌<◌}
use native.Mathlib.Omega.{arith}
use lib.ListN.{length, take, drop, length-take, length-drop, length-append, length-map, take-append-drop}
use lib.Seq.{take_at, drop_at, take-add, take-length, take-append_seam, drop-append_seam, length-take-le, drop-append-add, take-append-le, drop-drop}
use Rattle.laws.specs.Bytes.{overwrite, part, Bytes}
use Rattle.laws.proofs.Bytes.{length_over, over-part, part-add, take-over, part-inside, length_part}
use Rattle.ledger.specs.Ledger as L
use Rattle.ledger.specs.LedgerCode.{fresh_ledger}
use Rattle.ledger.specs.Ledger.{Piece, Held, Sent, size, bytes_of, held_offs, sent_offs}
use Rattle.ledger.proofs.Stream.{length-bytes_of}
use Rattle.area.specs.Layout.{place, area_bytes, stream_bytes}
use Rattle.area.specs.Table.{rows_from, table_bytes, total}
use Rattle.area.specs.declared.table.Row.{Row}
use Rattle.area.proofs.table.Laws.{rows_written, table_kept, length-rows}
use Rattle.pieces.specs.Pieces.{pieces_of}
use Rattle.pieces.specs.Lists.{held_of, sent_of}
use Rattle.pieces.proofs.Lists.{held-offs, held-length, held-map, sent-offs, sent-length}
use Rattle.pieces.proofs.Sound.{size-rows, length-pieces}
use Rattle.record.specs.Setters.{with_counts, with_at_peer, with_last_burst, with_waiting, with_flying, with_pieces}
use Rattle.record.specs.declared.Counts.{Counts}
use Rattle.record.specs.declared.AtPeer.{AtPeer}
use Rattle.record.specs.declared.LastBurst.{LastBurst}
use Rattle.record.specs.declared.Sender.{Sender}
use Rattle.record.specs.Fresh.{fresh}
use Rattle.record.specs.View.{held_in, rest_in, sent_in, view, rows_of, store_area, store_held, store_sent, store_counts, store_link, store}
use Rattle.limits.specs.Limits.{max_pieces, max_slots}
use Rattle.area.specs.TableCode.{Small}

-- ---- rows and pieces

pub rows-pieces : (rs : List Row) (st : List ℕ) → total rs ≤ length st → rows_of (pieces_of rs st) ≡ rs
unfolding total
rows-pieces [] st h = refl
rows-pieces (r ∷ rs) st h =
    let e : length (take r.len st) ≡ r.len = omega (arith, length-take r.len st) in
    ap₂ (λ (n : ℕ) (ss : List Row). record { off = r.off; len = n } ∷ ss) e (rows-pieces rs (drop r.len st) (omega (arith, length-drop r.len st)))

pub pieces-rows : (ps : List Piece) (w : List ℕ) → pieces_of (rows_of ps) (bytes_of ps ++ w) ≡ ps
pieces-rows [] w = refl
pieces-rows (p ∷ ps) w =
    let e = append_assoc p.bytes (bytes_of ps) w in
    ap₂ (λ (b : List ℕ) (qs : List Piece). record { off = p.off; bytes = b } ∷ qs)
    (ap (take (length p.bytes)) e ∙ take-append_seam p.bytes (bytes_of ps ++ w))
    (ap (pieces_of (rows_of ps)) (ap (drop (length p.bytes)) e ∙ drop-append_seam p.bytes (bytes_of ps ++ w)) ∙ pieces-rows ps w)

pub bytes-pieces : (rs : List Row) (st : List ℕ) → bytes_of (pieces_of rs st) ≡ take (total rs) st
unfolding total
bytes-pieces [] st = refl
bytes-pieces (r ∷ rs) st = ap (λ (b : List ℕ). take r.len st ++ b) (bytes-pieces rs (drop r.len st)) ∙ sym (take-add r.len (total rs) st)

-- ---- the work area

-- what the work area can hold
pub record ViewFits (l : L.Sender) (a : List ℕ) : Type 0 where
  pub area : area_bytes ≤ length a
  pub rows : length l.pieces ≤ max_pieces
  pub stream : size l.pieces + length l.waiting ≤ stream_bytes
  pub small : Small (rows_of l.pieces)

module _ (l : L.Sender) (a : List ℕ) (f : ViewFits l a) where
  abbrev stream : List ℕ
  stream = bytes_of l.pieces ++ l.waiting

  stream-length : length stream ≡ size l.pieces + length l.waiting
  stream-length = omega (arith, length-append (bytes_of l.pieces) l.waiting, length-bytes_of l.pieces)

  pub area-starts : take (length stream) (store_area l a) ≡ stream
  unfolding store_area
  area-starts =
      take-over (length stream) (overwrite a 0 stream) (place 0) (table_bytes (rows_of l.pieces)) (omega (arith, stream-length, f.stream))
      ∙ part-inside a 0 stream 0 (length stream) (omega arith) (omega (arith, stream-length, f.stream, f.area)) ∙ take-length stream

  area-is : store_area l a ≡ bytes_of l.pieces ++ (l.waiting ++ drop (length stream) (store_area l a))
  area-is =
      sym (take-append-drop (length stream) (store_area l a)) ∙ ap (λ (s : List ℕ). s ++ drop (length stream) (store_area l a)) area-starts
      ∙ append_assoc (bytes_of l.pieces) l.waiting (drop (length stream) (store_area l a))

  rows-of-area : rows_from (store_area l a) 0 (length l.pieces) ≡ rows_of l.pieces
  unfolding store_area
  rows-of-area =
      let n : length (rows_of l.pieces) ≡ length l.pieces = length-map l.pieces (λ (p : Piece). record { off = p.off; len = length p.bytes }) in
      ap (rows_from (store_area l a) 0) (sym n)
      ∙ rows_written (rows_of l.pieces) (overwrite a 0 stream) 0 f.small (omega (arith, n, f.rows, f.area, length_over a 0 stream))

  pub pieces-stored : pieces_of (rows_from (store_area l a) 0 (length l.pieces)) (store_area l a) ≡ l.pieces
  pieces-stored = ap₂ pieces_of rows-of-area area-is ∙ pieces-rows l.pieces (l.waiting ++ drop (length stream) (store_area l a))

  pub waiting-stored : part (store_area l a) (size l.pieces) (length l.waiting) ≡ l.waiting
  waiting-stored =
      ap (λ (b : List ℕ). take (length l.waiting) (drop (size l.pieces) b)) area-is
      ∙ ap (take (length l.waiting)) (drop_at (bytes_of l.pieces) (l.waiting ++ drop (length stream) (store_area l a)) (size l.pieces) (length-bytes_of l.pieces))
      ∙ take-append_seam l.waiting (drop (length stream) (store_area l a))

-- ---- lists in arrays

over-all : (l xs : List ℕ) → length xs ≤ length l → take (length xs) (overwrite l 0 xs) ≡ xs
over-all l xs h = part-inside l 0 xs 0 (length xs) (omega arith) (omega arith) ∙ take-length xs

abbrev bits_h : List Held → List ℕ
bits_h hs = map (λ (x : Held). x.bits) hs

abbrev bits_s : List Sent → List ℕ
bits_s fs = map (λ (x : Sent). x.bits) fs

abbrev held_s : List Sent → List ℕ
held_s fs = map (λ (x : Sent). x.held) fs

taken : (l xs : List ℕ) (n : ℕ) → length xs ≡ n → n ≤ length l → take n (overwrite l 0 xs) ≡ xs
taken l xs n e h = ap (λ (k : ℕ). take k (overwrite l 0 xs)) (sym e) ∙ over-all l xs (omega arith)

module _ (l : L.Sender) (h : AtPeer) (few : length l.held ≤ max_slots) (os : length h.off ≡ max_slots) (bs : length h.bits ≡ max_slots) where
  pub held-stored : held_in (store_held l h) ≡ l.held
  unfolding store_held
  held-stored =
      ap₂ held_of
      (taken h.off (held_offs l.held) (length l.held) (length-map l.held (λ (x : Held). x.off)) (omega arith))
      (taken h.bits (bits_h l.held) (length l.held) (length-map l.held (λ (x : Held). x.bits)) (omega arith))
      ∙ held-map l.held

  pub rest-stored : (pre : List Held) → l.held ≡ pre ++ l.rest → rest_in (store_held l h) ≡ l.rest
  unfolding store_held
  rest-stored pre e =
      let n : length l.held ≡ length pre + length l.rest = ap length e ∙ length-append pre l.rest in
      ap (drop (length l.held - length l.rest)) (held-stored ∙ e) ∙ drop_at pre l.rest (length l.held - length l.rest) (omega arith)

sent-map : (fs : List Sent) → sent_of (sent_offs fs) (bits_s fs) (held_s fs) ≡ fs
sent-map [] = refl
sent-map (f ∷ fs) = ap (λ (gs : List Sent). f ∷ gs) (sent-map fs)

module _ (l : L.Sender) (s : LastBurst) (few : length l.sent ≤ max_slots) (os : length s.off ≡ max_slots) (bs : length s.bits ≡ max_slots) (hs : length s.held ≡ max_slots) where
  pub sent-stored : sent_in (store_sent l s) ≡ l.sent
  unfolding store_sent
  sent-stored =
      ap₂ (λ (x y : List ℕ). sent_of x y (take (length l.sent) (overwrite s.held 0 (held_s l.sent))))
      (taken s.off (sent_offs l.sent) (length l.sent) (length-map l.sent (λ (x : Sent). x.off)) (omega arith))
      (taken s.bits (bits_s l.sent) (length l.sent) (length-map l.sent (λ (x : Sent). x.bits)) (omega arith))
      ∙ ap (sent_of (sent_offs l.sent) (bits_s l.sent)) (taken s.held (held_s l.sent) (length l.sent) (length-map l.sent (λ (x : Sent). x.held)) (omega arith))
      ∙ sent-map l.sent

-- ---- the record

-- a sender that the record can hold
pub record Holds (l : L.Sender) : Type 0 where
  pub held : length l.held ≤ max_slots
  pub tail : (pre : List Held) × (l.held ≡ pre ++ l.rest)
  pub sent : length l.sent ≤ max_slots

-- arrays are of 64, as their types have it
pub record Arrays (s : Sender) : Type 0 where
  pub held_off : length s.at_peer.off ≡ max_slots
  pub held_bits : length s.at_peer.bits ≡ max_slots
  pub sent_off : length s.last_burst.off ≡ max_slots
  pub sent_bits : length s.last_burst.bits ≡ max_slots
  pub sent_held : length s.last_burst.held ≡ max_slots

pub view-store : (l : L.Sender) (s : Sender) (a : List ℕ) → ViewFits l a → Holds l → Arrays s → view (store l s) (store_area l a) ≡ l
unfolding view store store_counts store_link
view-store l s a f h ar =
    let e₁ = waiting-stored l a f in
    let e₂ = pieces-stored l a f in
    let e₃ = held-stored l s.at_peer h.held ar.held_off ar.held_bits in
    let e₄ = rest-stored l s.at_peer h.held ar.held_off ar.held_bits h.tail.0 h.tail.1 in
    let e₅ = sent-stored l s.last_burst h.sent ar.sent_off ar.sent_bits ar.sent_held in
    ap₂ (λ (w : List ℕ) (ps : List Piece). record { waiting = w; next = l.next; acked = l.acked; pieces = ps; held = held_in (store_held l s.at_peer); rest = rest_in (store_held l s.at_peer); sent = sent_in (store_sent l s.last_burst); awaited = l.awaited; number = l.number }) e₁ e₂
    ∙ ap₂ (λ (x y : List Held). record { waiting = l.waiting; next = l.next; acked = l.acked; pieces = l.pieces; held = x; rest = y; sent = sent_in (store_sent l s.last_burst); awaited = l.awaited; number = l.number }) e₃ e₄
    ∙ ap (λ (x : List Sent). record { waiting = l.waiting; next = l.next; acked = l.acked; pieces = l.pieces; held = l.held; rest = l.rest; sent = x; awaited = l.awaited; number = l.number }) e₅

-- ---- what is there, written again

-- counts that go with the arrays and the work area
pub record Counted (s : Sender) (a : List ℕ) : Type 0 where
  pub area : area_bytes ≤ length a
  pub held : s.at_peer.n ≤ max_slots
  pub rest : s.at_peer.rest ≤ s.at_peer.n
  pub sent : s.last_burst.n ≤ max_slots
  pub pieces : s.counts.pieces ≤ max_pieces
  pub flying : total (rows_from a 0 s.counts.pieces) ≡ s.counts.flying
  pub stream : s.counts.flying + s.counts.waiting ≤ stream_bytes

module _ (s : Sender) (a : List ℕ) (c : Counted s a) (by : Bytes a) where
  abbrev rows : List Row
  rows = rows_from a 0 s.counts.pieces

  fits-area : total rows ≤ length a
  fits-area = omega (arith, c.flying, c.stream, c.area)

  pub area-kept : store_area (view s a) a ≡ a
  unfolding store_area view
  area-kept =
      let n : length rows ≡ s.counts.pieces = length-rows a 0 s.counts.pieces in
      ap₂ (λ (b : List ℕ) (rs : List Row). overwrite (overwrite a 0 b) (place 0) (table_bytes rs))
      (ap (λ (b : List ℕ). b ++ part a s.counts.flying s.counts.waiting) (bytes-pieces rows a ∙ ap (λ (k : ℕ). take k a) c.flying)
      ∙ sym (take-add s.counts.flying s.counts.waiting a))
      (rows-pieces rows a fits-area)
      ∙ ap (λ (b : List ℕ). overwrite b (place 0) (table_bytes rows)) (over-part a 0 (s.counts.flying + s.counts.waiting))
      ∙ table_kept a by 0 s.counts.pieces (omega (arith, c.pieces, c.area))

  pub counts-kept : store_counts (view s a) s.counts ≡ s.counts
  unfolding store_counts view
  counts-kept =
      let e₁ : length (part a s.counts.flying s.counts.waiting) ≡ s.counts.waiting = length_part a s.counts.flying s.counts.waiting (omega (arith, c.stream, c.area)) in
      let e₂ : size (pieces_of rows a) ≡ s.counts.flying = size-rows rows a fits-area ∙ c.flying in
      let e₃ : length (pieces_of rows a) ≡ s.counts.pieces = length-pieces rows a ∙ length-rows a 0 s.counts.pieces in
      ap₂ (λ (w f : ℕ). with_pieces (with_flying (with_waiting s.counts w) f) (length (pieces_of rows a))) e₁ e₂
      ∙ ap (with_pieces s.counts) e₃

-- a list in an array, written again
again : (l xs : List ℕ) (n : ℕ) → xs ≡ take n l → overwrite l 0 xs ≡ l
again l xs n e = ap (overwrite l 0) e ∙ over-part l 0 n

pub held-bits-of : (os bs : List ℕ) → length os ≡ length bs → map (λ (x : Held). x.bits) (held_of os bs) ≡ bs
held-bits-of [] [] e = refl
held-bits-of [] (b ∷ bs) e = absurd (omega (arith, e))
held-bits-of (o ∷ os) [] e = absurd (omega (arith, e))
held-bits-of (o ∷ os) (b ∷ bs) e = ap (λ (x : List ℕ). b ∷ x) (held-bits-of os bs (omega (arith, e)))

sent-bits-of : (os bs hs : List ℕ) → length os ≡ length bs → length os ≡ length hs → (bits_s (sent_of os bs hs) ≡ bs) × (held_s (sent_of os bs hs) ≡ hs)
sent-bits-of [] [] [] e d = (refl, refl)
sent-bits-of [] [] (h ∷ hs) e d = absurd (omega (arith, d))
sent-bits-of [] (b ∷ bs) hs e d = absurd (omega (arith, e))
sent-bits-of (o ∷ os) [] hs e d = absurd (omega (arith, e))
sent-bits-of (o ∷ os) (b ∷ bs) [] e d = absurd (omega (arith, d))
sent-bits-of (o ∷ os) (b ∷ bs) (h ∷ hs) e d =
    let r = sent-bits-of os bs hs (omega (arith, e)) (omega (arith, d)) in
    (ap (λ (x : List ℕ). b ∷ x) r.0, ap (λ (x : List ℕ). h ∷ x) r.1)

module _ (s : Sender) (a : List ℕ) (c : Counted s a) (ar : Arrays s) where
  abbrev h : AtPeer
  h = s.at_peer

  abbrev b : LastBurst
  b = s.last_burst

  pub held_kept : store_held (view s a) h ≡ h
  unfolding store_held view
  held_kept =
      let n₁ : length (take h.n h.off) ≡ h.n = length-take-le h.n h.off (omega (arith, c.held, ar.held_off)) in
      let n₂ : length (take h.n h.bits) ≡ h.n = length-take-le h.n h.bits (omega (arith, c.held, ar.held_bits)) in
      let e : length (take h.n h.off) ≡ length (take h.n h.bits) = omega arith in
      let k : length (held_in h) ≡ h.n = held-length (take h.n h.off) (take h.n h.bits) e ∙ n₁ in
      let r : length (rest_in h) ≡ h.rest = omega (arith, length-drop (h.n - h.rest) (held_in h), c.rest) in
      ap₂ (λ (x y : List ℕ). record { off = x; bits = y; n = length (held_in h); rest = length (rest_in h) })
      (again h.off (held_offs (held_in h)) h.n (held-offs (take h.n h.off) (take h.n h.bits) e))
      (again h.bits (bits_h (held_in h)) h.n (held-bits-of (take h.n h.off) (take h.n h.bits) e))
      ∙ ap₂ (λ (x y : ℕ). record { off = h.off; bits = h.bits; n = x; rest = y }) k r

  pub sent-kept : store_sent (view s a) b ≡ b
  unfolding store_sent view
  sent-kept =
      let n₁ : length (take b.n b.off) ≡ b.n = length-take-le b.n b.off (omega (arith, c.sent, ar.sent_off)) in
      let n₂ : length (take b.n b.bits) ≡ b.n = length-take-le b.n b.bits (omega (arith, c.sent, ar.sent_bits)) in
      let n₃ : length (take b.n b.held) ≡ b.n = length-take-le b.n b.held (omega (arith, c.sent, ar.sent_held)) in
      let e : length (take b.n b.off) ≡ length (take b.n b.bits) = omega arith in
      let d : length (take b.n b.off) ≡ length (take b.n b.held) = omega arith in
      let k : length (sent_in b) ≡ b.n = sent-length (take b.n b.off) (take b.n b.bits) (take b.n b.held) e d ∙ n₁ in
      let q = sent-bits-of (take b.n b.off) (take b.n b.bits) (take b.n b.held) e d in
      ap₂ (λ (x y : List ℕ). record { off = x; bits = y; held = overwrite b.held 0 (held_s (sent_in b)); n = length (sent_in b) })
      (again b.off (sent_offs (sent_in b)) b.n (sent-offs (take b.n b.off) (take b.n b.bits) (take b.n b.held) e d))
      (again b.bits (bits_s (sent_in b)) b.n q.0)
      ∙ ap₂ (λ (x : List ℕ) (y : ℕ). record { off = b.off; bits = b.bits; held = x; n = y }) (again b.held (held_s (sent_in b)) b.n q.1) k

  pub store_view : Bytes a → store (view s a) s ≡ s
  unfolding store store_link view
  store_view by =
      ap₂ (λ (x : Counts) (y : AtPeer). with_last_burst (with_at_peer (with_counts s x) y) (store_sent (view s a) b))
      (counts-kept s a c by) held_kept
      ∙ ap (with_last_burst s) sent-kept

-- a fresh record shows a fresh sender, whatever the work area has
pub view-fresh : (a : List ℕ) → view fresh a ≡ fresh_ledger
unfolding view
view-fresh a = refl
