-- The output of a burst, from its answer and the bytes taken alone.
-- Assumes nothing.
use Prim.Native.Nat.{ℕ, zero, suc, ◌+◌, ◌-◌, ◌≤◌}
use mathlib.Core.Path.{◌≡◌, refl, sym, ap, ap₂, ◌∙◌}
use mathlib.Core.List.{List, [], ◌∷◌, ◌++◌, map, append_assoc}
use native.Mathlib.Omega.{arith}
use lib.Dec.{eqb}
use lib.ListN.{length, take, drop, take-append-drop, length-append, length-take, length-drop}
use Rattle.laws.proofs.Lists.{map-map, map-id, map-append}
use Rattle.laws.proofs.Picks.{test}
use Rattle.limits.specs.Limits.{longest_payload}
use Rattle.frame.specs.Frame.{frame_of}
use Rattle.ledger.specs.Ledger.{Piece, Sent, Frame, end, find}
use Rattle.ledger.specs.LedgerCode.{frames}
use Rattle.ledger.specs.Tally.{Tally, unacked, byte_of, furthest, waits, sent_out, feed, went}
use Rattle.ledger.proofs.Queue.{goes-flies}
use Rattle.ledger.specs.ClaimCode.{Carry}
use Rattle.ledger.specs.CoverCode.{Ascend}
use Rattle.pieces.specs.Burst.{frames_sent}
use Rattle.demand.specs.Page.{by_offset, Taken, NoneReserved, WithRoom, frames_of_taken}

pub take-drop-more : (n o : ℕ) (bs ys : List ℕ) → n ≤ length (take n (drop o bs)) → take n (drop o (bs ++ ys)) ≡ take n (drop o bs)
take-drop-more zero o bs ys h = refl
take-drop-more (suc n) zero [] ys h = absurd (omega arith)
take-drop-more (suc n) zero (b ∷ bs) ys h = ap (λ (l : List ℕ). b ∷ l) (take-drop-more n zero bs ys (omega arith))
take-drop-more (suc n) (suc o) [] ys h = absurd (omega arith)
take-drop-more (suc n) (suc o) (b ∷ bs) ys h = take-drop-more (suc n) o bs ys h

pub sent-taken : (size : ℕ) (bs ys : List ℕ) (ps : List Piece) (fs : List Sent) → Carry bs ps (frames ps fs) → frames_sent size ps fs ≡ frames_of_taken size (bs ++ ys) (frames ps fs)
sent-taken size bs ys ps [] c = refl
sent-taken size bs ys ps (f ∷ fs) c =
    let e : find f.off ps ≡ take (length (find f.off ps)) (drop f.off bs) = c.2 in
    let m = take-drop-more (length (find f.off ps)) f.off bs ys (omega (arith, ap length e)) in
    ap₂ (λ (x y : List ℕ). frame_of size f.off x ++ y) (e ∙ sym m) (sent-taken size bs ys ps fs c.3)

-- a burst moves bytes from waiting to flown
pub sent-bytes : (n : ℕ) (fs : List Frame) (t : Tally) → by_offset (feed (went n fs) t) ≡ by_offset t
unfolding sent_out
sent-bytes n fs t =
    let k = furthest fs - length t.flown in
    let w = waits t in
    let u : map byte_of (unacked (take k w)) ≡ take k w = map-map byte_of _ (take k w) ∙ map-id (take k w) in
    rw (map-append byte_of t.flown (unacked (take k w)), u, goes-flies k t.queue, append_assoc (map byte_of t.flown) (take k w) (drop k w), take-append-drop k w)
    refl

-- frames that carry flown bytes carry bytes taken
pub within : (bs ys : List ℕ) (ps : List Piece) (fs : List Frame) → Carry bs ps fs → Taken (bs ++ ys) fs
within bs ys ps [] h = tt
within bs ys ps (f ∷ fs) h = (
  h.0,
  omega (arith, h.0, h.1, ap length h.2, length-take f.len (drop f.off bs), length-drop f.off bs, length-append bs ys),
  within bs ys ps fs h.3,
)

-- a piece has at most m bytes
find-most : (m k n o : ℕ) (ps : List Piece) → Ascend m k n ps → length (find o ps) ≤ m
find-most m k n o [] a = omega arith
find-most m k n o (p ∷ ps) a = test (eqb o p.off) (λ e. rw e a.2) (λ e. rw e (find-most m (end p) n o ps a.3))

-- frames that carry pieces are no longer than these
pub none-reserved : (m n : ℕ) (bs : List ℕ) (ps : List Piece) (fs : List Frame)
    → m ≤ longest_payload → Ascend m 0 n ps → Carry bs ps fs → NoneReserved fs
none-reserved m n bs ps [] h a c = tt
none-reserved m n bs ps (f ∷ fs) h a c = (omega (arith, h, c.1, find-most m 0 n f.off ps a), none-reserved m n bs ps fs h a c.3)

pub with-room : (m n size : ℕ) (bs : List ℕ) (ps : List Piece) (fs : List Frame)
    → m + 10 ≤ size → Ascend m 0 n ps → Carry bs ps fs → WithRoom size fs
with-room m n size bs ps [] h a c = tt
with-room m n size bs ps (f ∷ fs) h a c = (omega (arith, h, c.1, find-most m 0 n f.off ps a), with-room m n size bs ps fs h a c.3)
