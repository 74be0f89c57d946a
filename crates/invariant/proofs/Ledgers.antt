-- What of the ledger's sender a record and a work area need to hold it: it comes out of a sound sender whose bytes are bytes, and every call keeps it.
-- Assumes nothing.
use mathlib.Core.Path.{◌∙◌}
use mathlib.Core.List.{List, [], ◌∷◌, ◌++◌}
use mathlib.Core.Bool.{Bool}
use Prim.Native.Nat.{ℕ, ◌+◌, zero, suc, ◌/◌, ◌≤◌}
use native.Mathlib.Omega.{arith}
use lib.Dec.{lit<, eqb}
use lib.ListN.{length, drop}
use Rattle.laws.specs.Bytes.{overwrite, Bytes}
use Rattle.laws.specs.Little.{le}
use Rattle.laws.proofs.Bytes.{length_over}
use Rattle.laws.proofs.Little.{bytes_take, bytes_drop, bytes-part}
use Rattle.laws.proofs.Picks.{either}
use Rattle.limits.specs.Limits.{max_waiting, max_taken}
use Rattle.ledger.specs.Reply.{Reply}
use Rattle.ledger.specs.Ledger as L
use Rattle.ledger.specs.Ledger.{Piece, Sent, bytes_of, remove, remaining, settles, settle_burst, clear_burst, requeue, hear_ack}
use Rattle.ledger.specs.Sound.{Sound}
use Rattle.ledger.proofs.Kept.{ack-sound, clear-sound, queue-sound}
use Rattle.ledger.proofs.ShortFrames.{pieces-short_frames}
use Rattle.area.specs.Layout.{area_bytes, place}
use Rattle.area.specs.Table.{rows_from, table_bytes}
use Rattle.area.specs.declared.table.Row.{Row}
use Rattle.area.proofs.room.Laws.{stream-holds}
use Rattle.pieces.specs.Pieces.{pieces_of}
use Rattle.pieces.proofs.Room.{ascend-small}
use Rattle.record.specs.View.{view, rows_of, store_area, store_held, store_sent, store}
use Rattle.record.specs.declared.Sender.{Sender}
use Rattle.record.proofs.View.{ViewFits, Holds, Arrays}
use Rattle.ledger.specs.Sizes.{Sizes}
use Rattle.ledger.specs.SizesCode.{SizeRange}

-- ---- room

pub sound-fits : (z : Sizes) → SizeRange z → (l : L.Sender) → Sound z l → (a : List ℕ) → area_bytes ≤ length a → ViewFits l a
sound-fits z zr l so a h =
    record {
      area = h;
      rows = omega (arith, pieces-short_frames z.short (omega (arith, zr.least)) z.long 0 l.next l.pieces so.ascend, so.shorts);
      stream = omega (arith, so.bytes, so.few_waiting, stream-holds);
      small = ascend-small z.long 0 l.next l.pieces so.ascend (omega (arith, so.taken_few));
    }

pub sound-holds : (z : Sizes) (l : L.Sender) → Sound z l → Holds l
sound-holds z l so = record { held = so.held_few; tail = so.tail; sent = omega (arith, so.out_few) }

-- ---- arrays

pub store-arrays : (l : L.Sender) (s : Sender) → Arrays s → Arrays (store l s)
unfolding store store_held store_sent
store-arrays l s ar =
    record {
      held_off = length_over s.at_peer.off 0 _ ∙ ar.held_off;
      held_bits = length_over s.at_peer.bits 0 _ ∙ ar.held_bits;
      sent_off = length_over s.last_burst.off 0 _ ∙ ar.sent_off;
      sent_bits = length_over s.last_burst.bits 0 _ ∙ ar.sent_bits;
      sent_held = length_over s.last_burst.held 0 _ ∙ ar.sent_held;
    }

-- ---- bytes

pub bytes-joined : (xs ys : List ℕ) → Bytes xs → Bytes ys → Bytes (xs ++ ys)
bytes-joined [] ys h k i = k i
bytes-joined (x ∷ xs) ys h k zero = h zero
bytes-joined (x ∷ xs) ys h k (suc i) = bytes-joined xs ys (λ j. h (suc j)) k i

bytes-over : (l : List ℕ) (at : ℕ) (bs : List ℕ) → Bytes l → Bytes bs → Bytes (overwrite l at bs)
unfolding overwrite
bytes-over [] at bs h k i = h i
bytes-over (x ∷ l) zero [] h k i = h i
bytes-over (x ∷ l) zero (b ∷ bs) h k zero = k zero
bytes-over (x ∷ l) zero (b ∷ bs) h k (suc i) = bytes-over l zero bs (λ j. h (suc j)) (λ j. k (suc j)) i
bytes-over (x ∷ l) (suc at) bs h k zero = h zero
bytes-over (x ∷ l) (suc at) bs h k (suc i) = bytes-over l at bs (λ j. h (suc j)) k i

bytes_le : (n v : ℕ) → Bytes (le n v)
bytes_le zero v i = lit< tt
bytes_le (suc n) v zero = omega arith
bytes_le (suc n) v (suc i) = bytes_le n (v / 256) i

bytes-table : (rs : List Row) → Bytes (table_bytes rs)
bytes-table [] i = lit< tt
bytes-table (r ∷ rs) i = bytes-joined (le 4 r.off) (le 4 r.len ++ table_bytes rs) (bytes_le 4 r.off) (bytes-joined (le 4 r.len) (table_bytes rs) (bytes_le 4 r.len) (bytes-table rs)) i

-- those of pieces
abbrev pub PieceBytes : List Piece → Type 0
PieceBytes [] = Unit {0}
PieceBytes (p ∷ ps) = Bytes p.bytes × PieceBytes ps

pub bytes-of : (ps : List Piece) → PieceBytes ps → Bytes (bytes_of ps)
bytes-of [] h i = lit< tt
bytes-of (p ∷ ps) h i = bytes-joined p.bytes (bytes_of ps) h.0 (bytes-of ps h.1) i

read-bytes : (rs : List Row) (st : List ℕ) → Bytes st → PieceBytes (pieces_of rs st)
read-bytes [] st h = tt
read-bytes (r ∷ rs) st h = (bytes_take r.len st h, read-bytes rs (drop r.len st) (bytes_drop r.len st h))

remove-bytes : (o : ℕ) (ps : List Piece) → PieceBytes ps → PieceBytes (remove o ps)
remove-bytes o [] h = tt
remove-bytes o (p ∷ ps) h = either PieceBytes (eqb o p.off) _ _ h.1 (h.0, remove-bytes o ps h.1)

remaining-bytes : (b : ℕ → Bool) (i : ℕ) (fs : List Sent) (ps : List Piece) → PieceBytes ps → PieceBytes (remaining b i fs ps)
remaining-bytes b i [] ps h = h
remaining-bytes b i (f ∷ fs) ps h = remaining-bytes b (suc i) fs _ (either PieceBytes (b i) _ _ (remove-bytes f.off ps h) h)

-- ---- a sound sender whose bytes are bytes

pub record Kept (z : Sizes) (l : L.Sender) : Type 0 where
  pub sound : Sound z l
  pub pieces : PieceBytes l.pieces
  pub waiting : Bytes l.waiting

pub view-kept : (z : Sizes) (s : Sender) (a : List ℕ) → Bytes a → Sound z (view s a) → Kept z (view s a)
unfolding view
view-kept z s a by so = record { sound = so; pieces = read-bytes (rows_from a 0 s.counts.pieces) a by; waiting = bytes-part a by s.counts.flying s.counts.waiting }

pub store_bytes : (z : Sizes) (l : L.Sender) (a : List ℕ) → Bytes a → Kept z l → Bytes (store_area l a)
unfolding store_area
store_bytes z l a by k =
    let st = bytes_of l.pieces ++ l.waiting in
    bytes-over (overwrite a 0 st) (place 0) (table_bytes (rows_of l.pieces))
    (bytes-over a 0 st by (bytes-joined (bytes_of l.pieces) l.waiting (bytes-of l.pieces k.pieces) k.waiting)) (bytes-table (rows_of l.pieces))

module _ (z : Sizes) (zr : SizeRange z) (l : L.Sender) (k : Kept z l) where
  pub on-ack-kept : (r : Reply) (keep : Bool) → Kept z (hear_ack z.top r keep l)
  unfolding hear_ack settle_burst clear_burst
  on-ack-kept r keep =
      record {
        sound = ack-sound z r keep l k.sound;
        pieces =
            either (λ (x : L.Sender). PieceBytes x.pieces) l.awaited _ _
            (either (λ (x : L.Sender). PieceBytes x.pieces) (settles r l) _ _ (remaining-bytes (r.bit (length l.sent)) 0 l.sent l.pieces k.pieces) k.pieces)
            k.pieces;
        waiting = either (λ (x : L.Sender). Bytes x.waiting) l.awaited _ _ (either (λ (x : L.Sender). Bytes x.waiting) (settles r l) _ _ k.waiting k.waiting) k.waiting;
      }

  pub clear_kept : Kept z (clear_burst l)
  unfolding clear_burst
  clear_kept = record { sound = clear-sound z l k.sound; pieces = k.pieces; waiting = k.waiting }

  pub queue-kept : (w : List ℕ) → Bytes w → length w ≤ max_waiting → l.next + length w ≤ max_taken → Kept z (requeue w l)
  unfolding requeue
  queue-kept w by h h' = record { sound = queue-sound z w l h h' k.sound; pieces = k.pieces; waiting = by }
