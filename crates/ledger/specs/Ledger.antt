-- The sender's byte ledger as sender.rs keeps it: modules 3 and 6 of document 01, and module 5 as far as it settles a burst. Definitions only.
-- What the gear decides of a burst comes in as a `Plan`; specs/Plan says how `data_burst` makes it.
use Rattle.std.specs.Prelude.{ℕ, zero, suc, ◌+◌, ◌-◌, Bool, true, false, cond, not, ◌&&◌, List, [], ◌∷◌, ◌++◌, map, leb, ltb, eqb, length, take, drop}
use Rattle.laws.specs.Lists.{listed}
use Rattle.ledger.specs.Reply.{Reply}

-- a piece in flight, an entry of `inflight`: the offset of its first byte, and its bytes
pub record Piece : Type 0 where
  pub off : ℕ
  pub bytes : List ℕ

-- an entry of the held list `at_peer`: a piece of which the peer holds bits
pub record Held : Type 0 where
  pub off : ℕ
  pub bits : ℕ

-- a frame of the outstanding burst, an entry of `last_burst`: its bits, and those that the peer holds once it has them
pub record Sent : Type 0 where
  pub off : ℕ
  pub bits : ℕ
  pub held : ℕ

-- The fields of `Station` that the ledger needs: `out`, `next_offset`, `stats.bytes_acked`, `inflight` by ascending offset, `at_peer`, the unsent
-- rest `at_peer_rest`, `last_burst`, `awaiting == Awaiting::Ack` and `burst_id`
pub record Sender : Type 0 where
  pub waiting : List ℕ
  pub next : ℕ
  pub acked : ℕ
  pub pieces : List Piece
  pub held : List Held
  pub rest : List Held
  pub sent : List Sent
  pub awaited : Bool
  pub number : ℕ

abbrev pub len : Piece → ℕ
len p = length p.bytes

-- where a piece ends
abbrev pub end : Piece → ℕ
end p = p.off + len p

-- offsets, in order: `inflight.keys()`
abbrev pub offs : List Piece → List ℕ
offs ps = map (λ (p : Piece). p.off) ps

abbrev pub held_offs : List Held → List ℕ
held_offs hs = map (λ (h : Held). h.off) hs

abbrev pub sent_offs : List Sent → List ℕ
sent_offs fs = map (λ (f : Sent). f.off) fs

-- bytes in flight: `inflight.values().map(Vec::len).sum()`
abbrev pub size : List Piece → ℕ
size [] = 0
size (p ∷ ps) = len p + size ps

-- the flying bytes, in offset order
abbrev pub bytes_of : List Piece → List ℕ
bytes_of [] = []
bytes_of (p ∷ ps) = p.bytes ++ bytes_of ps

-- the bytes of the piece at offset o; none where no piece starts there
abbrev pub find : ℕ → List Piece → List ℕ
find o [] = []
find o (p ∷ ps) = cond (eqb o p.off) p.bytes (find o ps)

-- `inflight.remove(&o)`
abbrev pub remove : ℕ → List Piece → List Piece
remove o [] = []
remove o (p ∷ ps) = cond (eqb o p.off) ps (p ∷ remove o ps)

-- ---- a queuing: what waits after it, the queue of messages says (Queue.antt); `Station::queue` is `requeue (s.waiting ++ bs) s`

-- now w waits
unfoldable pub requeue : List ℕ → Sender → Sender
requeue w s =
    record {
      waiting = w;
      next = s.next;
      acked = s.acked;
      pieces = s.pieces;
      held = s.held;
      rest = s.rest;
      sent = s.sent;
      awaited = s.awaited;
      number = s.number;
    }

-- ---- `data_burst`: "Re-cut anything still in flight to this level's frame size"

-- `data.chunks(m)` of the bytes at offset o; k bounds the number of cuts
abbrev pub cut : ℕ → ℕ → ℕ → List ℕ → List Piece
cut zero m o bs = record { off = o; bytes = bs } ∷ []
cut (suc k) m o bs =
    cond (leb (length bs) m)
    (record { off = o; bytes = bs } ∷ [])
    (record { off = o; bytes = take m bs } ∷ cut k m (o + m) (drop m bs))

abbrev pub split : ℕ → List Piece → List Piece
split m [] = []
split m (p ∷ ps) = cut (len p) m p.off p.bytes ++ split m ps

-- ---- `merge_inflight`, with the offsets h held and m bytes at most

-- q joins p: neither is held, q starts where p ends, and the two fit
abbrev pub joins : List ℕ → ℕ → Piece → Piece → Bool
joins h m p q = (not (listed p.off h) && not (listed q.off h)) && (eqb (end p) q.off && leb (len p + len q) m)

abbrev pub joined : Piece → Piece → Piece
joined p q = record { off = p.off; bytes = p.bytes ++ q.bytes }

-- from the piece p on: "Merging goes on from the piece that didn't fit, not from the one after"
abbrev pub merge_from : List ℕ → ℕ → Piece → List Piece → List Piece
merge_from h m p [] = p ∷ []
merge_from h m p (q ∷ qs) = cond (joins h m p q) (merge_from h m (joined p q) qs) (p ∷ merge_from h m q qs)

abbrev pub merge_inflight : List ℕ → ℕ → List Piece → List Piece
merge_inflight h m [] = []
merge_inflight h m (p ∷ ps) = merge_from h m p ps

-- ---- `data_burst`: its frames

-- offsets of the pieces that are not held: `.filter(|k| !held.contains(k))`
abbrev pub unheld : List ℕ → List Piece → List ℕ
unheld h [] = []
unheld h (p ∷ ps) = cond (listed p.off h) (unheld h ps) (p.off ∷ unheld h ps)

-- at most k new pieces of at most m bytes, from offset o and the waiting bytes w: the loop `while pieces.len() < room`
abbrev pub chunks : ℕ → ℕ → ℕ → List ℕ → List Piece
chunks zero m o w = []
chunks (suc k) m o [] = []
chunks (suc k) m o (x ∷ w) =
    record { off = o; bytes = take m (x ∷ w) } ∷ chunks k m (o + length (take m (x ∷ w))) (drop m (x ∷ w))

-- What the gear, the level and the profile decide of a burst
pub record Plan : Type 0 where
  -- `max_payload`
  pub payload : ℕ
  -- `merge_pieces` at a long level
  pub merging : Bool
  -- `parity.len()`: how many of the held list go as increments; with none the list is cleared
  pub parity : ℕ
  -- `room`: frames of whole pieces, old or new, at most
  pub room : ℕ
  -- `slot`, and `harq::increment(h, slot)` of h held bits
  pub slot : ℕ
  pub increment : ℕ → ℕ
  -- `burst_id`
  pub number : ℕ

module _ (g : Plan) where
  -- `at_peer`: `if parity.is_empty() { self.at_peer.clear() }`
  abbrev pub kept_at_peer : Sender → List Held
  kept_at_peer s = cond (eqb g.parity 0) [] s.held

  -- "Splitting comes before merging; merging passes over held pieces"
  abbrev pub recut : Sender → List Piece
  recut s = cond g.merging (merge_inflight (held_offs (kept_at_peer s)) g.payload (split g.payload s.pieces)) (split g.payload s.pieces)

  -- the oldest pieces that go whole: `.take(room)`
  abbrev pub old_offs : Sender → List ℕ
  old_offs s = take g.room (unheld (held_offs (kept_at_peer s)) (recut s))

  abbrev pub new_pieces : Sender → List Piece
  new_pieces s = chunks (g.room - length (old_offs s)) g.payload s.next s.waiting

  -- a slot of parity: `(off, h + bits, from, bits)`
  abbrev pub increment : Held → Sent
  increment h = record { off = h.off; bits = g.increment h.bits; held = h.bits + g.increment h.bits }

  -- a slot of a whole piece: `(off, slot, 0, slot)`
  abbrev pub whole : ℕ → Sent
  whole o = record { off = o; bits = g.slot; held = g.slot }

  abbrev pub increments : List Held → List Sent
  increments hs = map increment hs

  abbrev pub wholes : List ℕ → List Sent
  wholes os = map whole os

  -- "Parity first, then oldest pieces, then new"
  abbrev pub slots : Sender → List Sent
  slots s = increments (take g.parity (kept_at_peer s)) ++ wholes (old_offs s ++ offs (new_pieces s))

  unfoldable pub data_burst : Sender → Sender
  data_burst s =
      record {
        waiting = drop (size (new_pieces s)) s.waiting;
        next = s.next + size (new_pieces s);
        acked = s.acked;
        pieces = recut s ++ new_pieces s;
        held = kept_at_peer s;
        rest = drop g.parity (kept_at_peer s);
        sent = slots s;
        awaited = true;
        number = g.number;
      }

-- a frame as a burst's answer tells it: full offset and length
pub record Frame : Type 0 where
  pub off : ℕ
  pub len : ℕ

-- ---- `settle_burst`: its loop from place i on, with the ack's bits b

-- `inflight` after it
abbrev pub remaining : (ℕ → Bool) → ℕ → List Sent → List Piece → List Piece
remaining b i [] ps = ps
remaining b i (f ∷ fs) ps = remaining b (suc i) fs (cond (b i) (remove f.off ps) ps)

-- what it adds to `bytes_acked`
abbrev pub acked_bytes : (ℕ → Bool) → ℕ → List Sent → List Piece → ℕ
acked_bytes b i [] ps = 0
acked_bytes b i (f ∷ fs) ps =
    cond (b i) (length (find f.off ps)) 0 + acked_bytes b (suc i) fs (cond (b i) (remove f.off ps) ps)

-- what it adds to `at_peer`: "A piece is held only while its bits are below twice the mother length"
abbrev pub missed : (ℕ → Bool) → ℕ → ℕ → List Sent → List Held
missed b top i [] = []
missed b top i (f ∷ fs) =
    cond (not (b i) && ltb f.held top)
    (record { off = f.off; bits = f.held } ∷ missed b top (suc i) fs)
    (missed b top (suc i) fs)

-- `keep`: the ack says stored, harq is on and the level is long. `last_burst` and the wait are cleared by `on_ack` and `sender_rx`
unfoldable pub settle_burst : ℕ → Reply → Bool → Sender → Sender
settle_burst top r keep s =
    record {
      waiting = s.waiting;
      next = s.next;
      acked = s.acked + acked_bytes (r.bit (length s.sent)) 0 s.sent s.pieces;
      pieces = remaining (r.bit (length s.sent)) 0 s.sent s.pieces;
      held = cond keep (s.rest ++ missed (r.bit (length s.sent)) top 0 s.sent) [];
      rest = [];
      sent = [];
      awaited = false;
      number = s.number;
    }

-- ---- the Ack and Turn arms of `sender_rx`, with `on_ack`

-- the burst is outstanding no more, and nothing is settled. The Turn arm: `on_ack` with another number, where the burst has a frame
unfoldable pub clear_burst : Sender → Sender
clear_burst s =
    record {
      waiting = s.waiting;
      next = s.next;
      acked = s.acked;
      pieces = s.pieces;
      held = s.held;
      rest = s.rest;
      sent = [];
      awaited = false;
      number = s.number;
    }

-- "An unmatched burst number settles nothing"; a burst with no frame neither: `on_ack` returns before it, and the held list stays
abbrev pub settles : Reply → Sender → Bool
settles r s = eqb r.number s.number && ltb 0 (length s.sent)

-- "An ack not awaited updates only the turn and disconnect wishes and the number last heard"
unfoldable pub hear_ack : ℕ → Reply → Bool → Sender → Sender
hear_ack top r keep s = cond s.awaited (cond (settles r s) (settle_burst top r keep s) (clear_burst s)) s
