-- `settle_burst` (sender.rs) on the record's lists and the work area's rows. The bitmap's lowest bit is the first frame's. Follows the code or serves proofs: nothing here has to be believed.
use Rattle.std.specs.Prelude.{List, [], ◌∷◌, map, ◌≡◌, Bool, false, cond, not, ◌&&◌, ℕ, ◌+◌, ◌-◌, ◌/◌, ◌%◌, ◌≤◌, ltb, eqb, length, take, replicate}
use Rattle.laws.specs.Bytes.{overwrite}
use Rattle.ledger.specs.Ledger.{Held, held_offs}
use Rattle.area.specs.Layout.{area_bytes}
use Rattle.area.specs.Table.{rows_from, total}
use Rattle.area.specs.Removal.{removed_pieces}
use Rattle.area.specs.declared.removal.Kept.{Kept}
use Rattle.record.specs.Setters.{with_link, with_counts, with_at_peer, with_last_burst, with_awaiting, with_flying, with_pieces, with_acked, without_frames}
use Rattle.record.specs.View.{rest_in}
use Rattle.record.specs.declared.AtPeer.{AtPeer}
use Rattle.record.specs.declared.Counts.{Counts}
use Rattle.record.specs.declared.LastBurst.{LastBurst}
use Rattle.record.specs.declared.Link.{Link}
use Rattle.record.specs.declared.Sender.{Sender}
use Rattle.settle.specs.declared.Offsets.{Offsets}
use Rattle.limits.specs.Limits.{max_slots, max_flying, max_waiting, max_pieces, max_taken}

-- the offsets whose bit is set
unfoldable pub acked_in : ℕ → List ℕ → List ℕ
acked_in m [] = []
acked_in m (o ∷ os) = cond (eqb (m % 2) 1) (o ∷ acked_in (m / 2) os) (acked_in (m / 2) os)

-- a list in an array
unfoldable pub offsets_of : List ℕ → Offsets
offsets_of xs = record { off = overwrite (replicate max_slots 0) 0 xs; n = length xs }

-- the frames whose bit is not set, of which the peer holds less than `top`
unfoldable pub missed_in : ℕ → ℕ → List ℕ → List ℕ → List Held
missed_in m top [] hs = []
missed_in m top (o ∷ os) [] = []
missed_in m top (o ∷ os) (h ∷ hs) = cond (not (eqb (m % 2) 1) && ltb h top) (record { off = o; bits = h } ∷ missed_in (m / 2) top os hs) (missed_in (m / 2) top os hs)

-- `at_peer.extend(xs)`
unfoldable pub with_more_held : AtPeer → List Held → AtPeer
with_more_held h xs =
    record {
      off = overwrite h.off h.n (held_offs xs);
      bits = overwrite h.bits h.n (map (λ (x : Held). x.bits) xs);
      n = h.n + length xs;
      rest = h.rest;
    }

-- `at_peer.clear()`
abbrev pub held_none : AtPeer → AtPeer
held_none h = record { off = h.off; bits = h.bits; n = 0; rest = 0 }

-- with keep, the unsent rest and then what was missed
unfoldable pub new_held : ℕ → ℕ → Bool → AtPeer → LastBurst → AtPeer
new_held m top keep h s = cond keep (with_more_held (with_more_held (held_none h) (rest_in h)) (missed_in m top (take s.n s.off) (take s.n s.held))) (held_none h)

abbrev pub unawaited : Link → Link
unawaited k = with_awaiting k false

-- what is left in flight; the rest was acknowledged
abbrev pub with_flight : Counts → Kept → Counts
with_flight c k = with_acked (with_pieces (with_flying c k.bytes) k.rows) (c.bytes_acked + (c.flying - k.bytes))

unfoldable pub settled : ℕ → ℕ → Bool → Sender → List ℕ → Sender × List ℕ
settled m top keep s a =
    let b = s.last_burst in
    let r = removed_pieces (acked_in m (take b.n b.off)) s.counts.pieces (s.counts.flying + s.counts.waiting) a in
    let q = with_counts (with_link s (unawaited s.link)) (with_flight s.counts r.0) in
    (with_last_burst (with_at_peer q (new_held m top keep s.at_peer b)) (without_frames b), r.1)

-- what settling needs of the numbers
pub record Settling (s : Sender) (a : List ℕ) : Type 0 where
  pub area : area_bytes ≤ length a
  pub held : s.at_peer.n ≤ max_slots
  pub rest : s.at_peer.rest ≤ s.at_peer.n
  pub out : s.last_burst.n + s.at_peer.rest ≤ max_slots
  pub waits : s.counts.waiting ≤ max_waiting
  pub flies : s.counts.flying ≤ max_flying
  pub pieces : s.counts.pieces ≤ max_pieces
  pub flying : total (rows_from a 0 s.counts.pieces) ≡ s.counts.flying
  pub acked : s.counts.bytes_acked + s.counts.flying ≤ max_taken
