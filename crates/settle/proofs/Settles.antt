-- What `settle_burst` leaves of the record and the work area is what the ledger leaves.
-- Assumes nothing.
use mathlib.Core.Path.{◌≡◌, refl, sym, ap, ap₂, ◌∙◌}
use mathlib.Core.List.{List, [], ◌∷◌, ◌++◌, map}
use mathlib.Core.Bool.{Bool, true, false, cond, not, ◌&&◌}
use Prim.Native.Nat.{ℕ, suc, ◌+◌, ◌-◌, ◌/◌, ◌%◌, ◌^◌, ◌≤◌, ◌<◌}
use native.Mathlib.Omega.{arith}
use native.Mathlib.Nat.{div-div-eq-div-mul, div-one, pow-succ'}
use lib.Dec.{eqb, ltb}
use lib.ListN.{length, take, drop, take-append-drop}
use lib.Seq.{take-add, drop_at, length-take-le}
use Rattle.laws.specs.Bytes.{overwrite, part}
use Rattle.laws.proofs.Bytes.{over-nil, length_part}
use Rattle.ledger.specs.Reply.{Reply, bit_at}
use Rattle.ledger.specs.Ledger as L
use Rattle.ledger.specs.Ledger.{Piece, Held, Sent, size, bytes_of, held_offs, sent_offs, remaining, acked_bytes, missed, settle_burst}
use Rattle.ledger.specs.Sound.{Sound}
use Rattle.area.specs.Layout.{place}
use Rattle.area.specs.Table.{rows_from, table_bytes, total}
use Rattle.area.specs.declared.table.Row.{Row}
use Rattle.area.specs.Removal.{kept_rows, kept_bytes, removed_pieces}
use Rattle.pieces.specs.Pieces.{pieces_of}
use Rattle.pieces.specs.Lists.{sent_of}
use Rattle.pieces.proofs.Settle.{kept-waiting, kept-length, settled-pieces, settled-size, settled-bytes}
use Rattle.pieces.proofs.Sound.{length-pieces}
use Rattle.pieces.proofs.Lists.{sent-length}
use Rattle.pieces.proofs.Carried.{pieces-take}
use Rattle.record.specs.Setters.{with_link, with_counts, with_at_peer, with_last_burst, with_waiting, with_flying, with_pieces, with_acked}
use Rattle.record.specs.declared.AtPeer.{AtPeer}
use Rattle.record.specs.declared.LastBurst.{LastBurst}
use Rattle.record.specs.declared.Counts.{Counts}
use Rattle.record.specs.declared.Sender.{Sender}
use Rattle.record.specs.View.{rest_in, sent_in, view, rows_of, store_area, store_held, store_sent, store_counts, store_link, store}
use Rattle.record.proofs.View.{Counted, Arrays, rows-pieces, bytes-pieces}
use Rattle.settle.specs.Settle.{acked_in, missed_in, with_more_held, held_none, new_held, settled, with_flight}
use Rattle.settle.proofs.Laws.{held_more}
use Rattle.ledger.specs.Sizes.{Sizes}
use Rattle.ledger.specs.CoverCode.{Ascend}
use Rattle.pieces.specs.ListsCode.{acked_offs}

-- ---- bits

-- the bits of a bitmap from place i on
pub half-bit : (m i : ℕ) → bit_at (m / 2) i ≡ bit_at m (suc i)
half-bit m i = ap (λ (x : ℕ). eqb (x % 2) 1) (div-div-eq-div-mul m 2 (2 ^ i) ∙ ap (λ (x : ℕ). m / x) (sym (pow-succ' 2 i)))

-- b has the bits of m, from place i on
abbrev pub Bits : (ℕ → Bool) → ℕ → ℕ → ℕ → Type 0
Bits b i m n = (j : ℕ) → j < n → b (i + j) ≡ bit_at m j

pub bits-first : (b : ℕ → Bool) (i m n : ℕ) → Bits b i m (suc n) → b i ≡ eqb (m % 2) 1
bits-first b i m n h =
    let e : i ≡ i + 0 = omega arith in
    ap b e ∙ h 0 (omega arith) ∙ ap (λ (x : ℕ). eqb (x % 2) 1) (div-one m)

pub bits-rest : (b : ℕ → Bool) (i m n : ℕ) → Bits b i m (suc n) → Bits b (suc i) (m / 2) n
bits-rest b i m n h j k =
    let e : suc i + j ≡ i + suc j = omega arith in
    ap b e ∙ h (suc j) (omega arith) ∙ sym (half-bit m j)

acked-offs : (b : ℕ → Bool) (i m : ℕ) (os bs hs : List ℕ) → length os ≡ length bs → length os ≡ length hs → Bits b i m (length os) → acked_in m os ≡ acked_offs b i (sent_of os bs hs)
unfolding acked_in
acked-offs b i m [] bs hs e d h = refl
acked-offs b i m (o ∷ os) [] hs e d h = absurd (omega (arith, e))
acked-offs b i m (o ∷ os) (x ∷ bs) [] e d h = absurd (omega (arith, d))
acked-offs b i m (o ∷ os) (x ∷ bs) (y ∷ hs) e d h =
    ap₂ (λ (t : Bool) (l : List ℕ). cond t (o ∷ l) l) (sym (bits-first b i m (length os) h)) (acked-offs b (suc i) (m / 2) os bs hs (omega (arith, e)) (omega (arith, d)) (bits-rest b i m (length os) h))

missed-frames : (b : ℕ → Bool) (i m top : ℕ) (os bs hs : List ℕ) → length os ≡ length bs → length os ≡ length hs → Bits b i m (length os) → missed_in m top os hs ≡ missed b top i (sent_of os bs hs)
unfolding missed_in
missed-frames b i m top [] bs hs e d h = refl
missed-frames b i m top (o ∷ os) [] hs e d h = absurd (omega (arith, e))
missed-frames b i m top (o ∷ os) (x ∷ bs) [] e d h = absurd (omega (arith, d))
missed-frames b i m top (o ∷ os) (x ∷ bs) (y ∷ hs) e d h =
    ap₂ (λ (t : Bool) (l : List Held). cond (not t && ltb y top) (record { off = o; bits = y } ∷ l) l) (sym (bits-first b i m (length os) h))
    (missed-frames b (suc i) (m / 2) top os bs hs (omega (arith, e)) (omega (arith, d)) (bits-rest b i m (length os) h))

-- ---- the record and the work area

held_by : (keep : Bool) (h : AtPeer) (xs ms : List Held) → cond keep (with_more_held (with_more_held (held_none h) xs) ms) (held_none h)
    ≡ record { off = overwrite h.off 0 (held_offs (cond keep (xs ++ ms) [])); bits = overwrite h.bits 0 (map (λ (x : Held). x.bits) (cond keep (xs ++ ms) [])); n = length (cond keep (xs ++ ms) []); rest = 0 }
unfolding with_more_held
held_by true h xs ms =
    let e : 0 + length (xs ++ ms) ≡ length (xs ++ ms) = omega arith in
    held_more (held_none h) xs ms
    ∙ ap (λ (k : ℕ). record { off = overwrite h.off 0 (held_offs (xs ++ ms)); bits = overwrite h.bits 0 (map (λ (x : Held). x.bits) (xs ++ ms)); n = k; rest = 0 }) e
held_by false h xs ms = ap₂ (λ (x y : List ℕ). record { off = x; bits = y; n = 0; rest = 0 }) (sym (over-nil h.off 0)) (sym (over-nil h.bits 0))

-- behind the flying bytes come those that wait
waits : (a : List ℕ) (f w : ℕ) → f + w ≤ length a → drop f (part a 0 (f + w)) ≡ part a f w
waits a f w h = ap (drop f) (take-add f w a) ∙ drop_at (take f a) (part a f w) f (length-take-le f a (omega arith))

module _ (z : Sizes) (m top : ℕ) (keep : Bool) (r : Reply) (s : Sender) (a : List ℕ) (so : Sound z (view s a)) (c : Counted s a) (ar : Arrays s)
    (bits : Bits (r.bit (length (sent_in s.last_burst))) 0 m s.last_burst.n) where
  abbrev before : L.Sender
  before = view s a

  abbrev after : L.Sender
  after = settle_burst top r keep before

  abbrev last : LastBurst
  last = s.last_burst

  abbrev held : AtPeer
  held = s.at_peer

  abbrev bit : ℕ → Bool
  bit = r.bit (length (sent_in last))

  abbrev rows : List Row
  rows = rows_from a 0 s.counts.pieces

  abbrev used : ℕ
  used = s.counts.flying + s.counts.waiting

  abbrev st : List ℕ
  st = part a 0 used

  n₁ : length (take last.n last.off) ≡ last.n
  n₁ = length-take-le last.n last.off (omega (arith, c.sent, ar.sent_off))

  n₂ : length (take last.n last.bits) ≡ last.n
  n₂ = length-take-le last.n last.bits (omega (arith, c.sent, ar.sent_bits))

  n₃ : length (take last.n last.held) ≡ last.n
  n₃ = length-take-le last.n last.held (omega (arith, c.sent, ar.sent_held))

  length-sent : length (sent_in last) ≡ last.n
  length-sent = sent-length (take last.n last.off) (take last.n last.bits) (take last.n last.held) (n₁ ∙ sym n₂) (n₁ ∙ sym n₃) ∙ n₁

  these-bits : Bits bit 0 m (length (take last.n last.off))
  these-bits j h = bits j (omega (arith, n₁))

  gone-are : acked_in m (take last.n last.off) ≡ acked_offs bit 0 (sent_in last)
  gone-are = acked-offs bit 0 m (take last.n last.off) (take last.n last.bits) (take last.n last.held) (n₁ ∙ sym n₂) (n₁ ∙ sym n₃) these-bits

  missed-are : missed_in m top (take last.n last.off) (take last.n last.held) ≡ missed bit top 0 (sent_in last)
  missed-are = missed-frames bit 0 m top (take last.n last.off) (take last.n last.bits) (take last.n last.held) (n₁ ∙ sym n₂) (n₁ ∙ sym n₃) these-bits

  held_after : new_held m top keep held last ≡ store_held after held
  unfolding new_held store_held settle_burst view
  held_after = ap (λ (ms : List Held). cond keep (with_more_held (with_more_held (held_none held) (rest_in held)) ms) (held_none held)) missed-are ∙ held_by keep held (rest_in held) (missed bit top 0 (sent_in last))

  -- ---- the work area

  abbrev gone : List ℕ
  gone = acked_offs bit 0 (sent_in last)

  abbrev kept : List Row
  kept = kept_rows gone rows

  abbrev bytes : List ℕ
  bytes = kept_bytes gone rows st

  fits-used : used ≤ length a
  fits-used = omega (arith, c.stream, c.area)

  length-st : length st ≡ used
  length-st = length_part a 0 used (omega (arith, fits-used))

  rows-st : total rows ≤ length st
  rows-st = omega (arith, c.flying, length-st)

  same-pieces : pieces_of rows st ≡ pieces_of rows a
  same-pieces = pieces-take rows a used (omega (arith, c.flying))

  ascend : Ascend z.long 0 s.counts.next_offset (pieces_of rows st)
  unfolding view
  ascend = rw same-pieces so.ascend

  remaining-are : pieces_of kept bytes ≡ remaining bit 0 (sent_in last) (pieces_of rows a)
  remaining-are = settled-pieces bit z.long s.counts.next_offset 0 (sent_in last) rows st rows-st ascend ∙ ap (remaining bit 0 (sent_in last)) same-pieces

  kept-fits : total kept ≤ length bytes
  kept-fits = omega (arith, kept-length gone rows st rows-st, rows-st)

  bytes_after : bytes_of after.pieces ++ after.waiting ≡ bytes
  unfolding settle_burst view
  bytes_after =
      ap₂ (λ (x y : List ℕ). x ++ y)
      (ap bytes_of (sym remaining-are) ∙ bytes-pieces kept bytes)
      (sym (kept-waiting gone rows st rows-st ∙ ap (λ (k : ℕ). drop k st) c.flying ∙ waits a s.counts.flying s.counts.waiting fits-used))
      ∙ take-append-drop (total kept) bytes

  rows-after : rows_of after.pieces ≡ kept
  unfolding settle_burst view
  rows-after = ap rows_of (sym remaining-are) ∙ rows-pieces kept bytes kept-fits

  area-after : (settled m top keep s a).1 ≡ store_area after a
  unfolding settled removed_pieces store_area
  area-after =
      ap (λ (g : List ℕ). overwrite (overwrite a 0 (kept_bytes g rows st)) (place 0) (table_bytes (kept_rows g rows))) gone-are
      ∙ sym (ap₂ (λ (b : List ℕ) (rs : List Row). overwrite (overwrite a 0 b) (place 0) (table_bytes rs)) bytes_after rows-after)

  counts-after : (settled m top keep s a).0.counts ≡ store_counts after s.counts
  unfolding settled removed_pieces store_counts settle_burst view
  counts-after =
      let e₁ : length (part a s.counts.flying s.counts.waiting) ≡ s.counts.waiting = length_part a s.counts.flying s.counts.waiting (omega (arith, fits-used)) in
      let e₂ : size (remaining bit 0 (sent_in last) (pieces_of rows a)) ≡ total kept = ap (λ (ps : List Piece). size (remaining bit 0 (sent_in last) ps)) (sym same-pieces) ∙ settled-size bit z.long s.counts.next_offset 0 (sent_in last) rows st rows-st ascend in
      let e₃ : length (remaining bit 0 (sent_in last) (pieces_of rows a)) ≡ length kept = ap length (sym remaining-are) ∙ length-pieces kept bytes in
      let b : acked_bytes bit 0 (sent_in last) (pieces_of rows st) ≡ acked_bytes bit 0 (sent_in last) (pieces_of rows a) = ap (acked_bytes bit 0 (sent_in last)) same-pieces in
      let e₄ : acked_bytes bit 0 (sent_in last) (pieces_of rows a) ≡ s.counts.flying - total kept = omega (arith, b, settled-bytes bit z.long s.counts.next_offset 0 (sent_in last) rows st rows-st ascend, c.flying) in
      ap (λ (g : List ℕ). with_flight s.counts (record { rows = length (kept_rows g rows); bytes = total (kept_rows g rows) })) gone-are
      ∙ sym (ap₂ (λ (w f : ℕ). with_acked (with_pieces (with_flying (with_waiting s.counts w) f) (length (remaining bit 0 (sent_in last) (pieces_of rows a))))
      (s.counts.bytes_acked + acked_bytes bit 0 (sent_in last) (pieces_of rows a))) e₁ e₂
      ∙ ap₂ (λ (n x : ℕ). with_acked (with_pieces (with_flying s.counts (total kept)) n) (s.counts.bytes_acked + x)) e₃ e₄)

  sent-after : (settled m top keep s a).0.last_burst ≡ store_sent after last
  unfolding settled store_sent settle_burst
  sent-after =
      ap₂ (λ (x y : List ℕ). record { off = x; bits = y; held = last.held; n = 0 }) (sym (over-nil last.off 0)) (sym (over-nil last.bits 0))
      ∙ ap (λ (x : List ℕ). record { off = overwrite last.off 0 []; bits = overwrite last.bits 0 []; held = x; n = 0 }) (sym (over-nil last.held 0))

  -- the record and the work area after are those that hold what the ledger leaves
  pub settles : settled m top keep s a ≡ (store after s, store_area after a)
  unfolding store settled store_link settle_burst view
  settles =
      ap₂ (λ (x : Counts) (y : AtPeer). (with_at_peer (with_counts (settled m top keep s a).0 x) y, (settled m top keep s a).1)) counts-after held_after
      ∙ ap₂ (λ (x : LastBurst) (y : List ℕ). (with_last_burst (with_at_peer (with_counts (with_link s (store_link after s.link)) (store_counts after s.counts)) (store_held after held)) x, y)) sent-after area-after
