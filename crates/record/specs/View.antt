-- The ledger's sender that a record and its work area hold, and the record and the work area that hold a ledger's sender. Definitions only.
use Rattle.std.specs.Prelude.{List, [], ◌∷◌, ◌++◌, map, ℕ, ◌-◌, length, take, drop}
use Rattle.laws.specs.Bytes.{overwrite, part}
use Rattle.ledger.specs.Ledger as L
use Rattle.ledger.specs.Ledger.{Piece, Held, Sent, size, bytes_of, held_offs, sent_offs}
use Rattle.area.specs.Layout.{place}
use Rattle.area.specs.Table.{rows_from, table_bytes}
use Rattle.area.specs.declared.table.Row.{Row}
use Rattle.pieces.specs.Pieces.{pieces_of}
use Rattle.pieces.specs.Lists.{held_of, sent_of}
use Rattle.record.specs.declared.Link.{Link}
use Rattle.record.specs.declared.Counts.{Counts}
use Rattle.record.specs.Setters.{with_awaiting, with_number, with_link, with_counts, with_at_peer, with_last_burst, with_next, with_waiting, with_flying, with_pieces, with_acked}
use Rattle.record.specs.declared.AtPeer.{AtPeer}
use Rattle.record.specs.declared.LastBurst.{LastBurst}
use Rattle.record.specs.declared.Sender.{Sender}

-- ---- read

abbrev pub held_in : AtPeer → List Held
held_in h = held_of (take h.n h.off) (take h.n h.bits)

-- "the unsent rest is a tail of the held list"
abbrev pub rest_in : AtPeer → List Held
rest_in h = drop (h.n - h.rest) (held_in h)

abbrev pub sent_in : LastBurst → List Sent
sent_in s = sent_of (take s.n s.off) (take s.n s.bits) (take s.n s.held)

unfoldable pub view : Sender → List ℕ → L.Sender
view s a =
    record {
      waiting = part a s.counts.flying s.counts.waiting;
      next = s.counts.next_offset;
      acked = s.counts.bytes_acked;
      pieces = pieces_of (rows_from a 0 s.counts.pieces) a;
      held = held_in s.at_peer;
      rest = rest_in s.at_peer;
      sent = sent_in s.last_burst;
      awaited = s.link.awaiting;
      number = s.link.burst_id;
    }

-- ---- written

abbrev pub rows_of : List Piece → List Row
rows_of ps = map (λ (p : Piece). record { off = p.off; len = length p.bytes }) ps

-- the work area: the flying bytes and then the waiting ones, and the table. All other bytes stay as they are
unfoldable pub store_area : L.Sender → List ℕ → List ℕ
store_area l a = overwrite (overwrite a 0 (bytes_of l.pieces ++ l.waiting)) (place 0) (table_bytes (rows_of l.pieces))

unfoldable pub store_counts : L.Sender → Counts → Counts
store_counts l c =
    with_acked (with_pieces (with_flying (with_waiting (with_next c l.next) (length l.waiting)) (size l.pieces)) (length l.pieces)) l.acked

-- entries past the count stay as they are
unfoldable pub store_held : L.Sender → AtPeer → AtPeer
store_held l h =
    record {
      off = overwrite h.off 0 (held_offs l.held);
      bits = overwrite h.bits 0 (map (λ (x : Held). x.bits) l.held);
      n = length l.held;
      rest = length l.rest;
    }

unfoldable pub store_sent : L.Sender → LastBurst → LastBurst
store_sent l s =
    record {
      off = overwrite s.off 0 (sent_offs l.sent);
      bits = overwrite s.bits 0 (map (λ (x : Sent). x.bits) l.sent);
      held = overwrite s.held 0 (map (λ (x : Sent). x.held) l.sent);
      n = length l.sent;
    }

unfoldable pub store_link : L.Sender → Link → Link
store_link l k = with_number (with_awaiting k l.awaited) l.number

-- the record, where the rest of it is as in s
unfoldable pub store : L.Sender → Sender → Sender
store l s =
    let q = with_counts (with_link s (store_link l s.link)) (store_counts l s.counts) in
    with_last_burst (with_at_peer q (store_held l s.at_peer)) (store_sent l s.last_burst)
