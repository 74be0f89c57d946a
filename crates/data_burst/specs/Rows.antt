-- `data_burst` (sender.rs) on the record's lists and the work area's rows, step by step. Follows the code or serves proofs: nothing here has to be believed.
use Rattle.std.specs.Prelude.{List, ◌≡◌, Bool, true, false, cond, ℕ, ◌+◌, ◌-◌, ◌≤◌, ◌<◌, eqb, length, take, get_or, replicate}
use Rattle.laws.specs.Bytes.{overwrite}
use Rattle.harq.specs.Held.{increment_of}
use Rattle.harq.specs.declared.Harq.{Harq}
use Rattle.area.specs.Layout.{area_bytes, stream_bytes}
use Rattle.area.specs.Table.{row_at, rows_from, total}
use Rattle.area.specs.declared.table.Row.{Row}
use Rattle.area.specs.Recut.{split_rows, merge_rows, new_table}
use Rattle.frames.specs.Slots.{push_all, slots_from, unheld_slots, increment_slots, added_pieces}
use Rattle.frames.specs.declared.slots.Added.{Added}
use Rattle.frames.specs.declared.slots.Slot.{Slot}
use Rattle.frames.specs.declared.slots.Slots.{Slots}
use Rattle.frames.specs.Frames.{frames_written, SlotsFit}
use Rattle.plan.specs.declared.Choice.{Choice}
use Rattle.plan.specs.declared.Planned.{Planned}
use Rattle.record.specs.Setters.{with_link, with_counts, with_at_peer, with_last_burst, with_awaiting, with_number, with_next, with_waiting, with_flying, with_pieces}
use Rattle.record.specs.declared.AtPeer.{AtPeer}
use Rattle.record.specs.declared.Counts.{Counts}
use Rattle.record.specs.declared.LastBurst.{LastBurst}
use Rattle.record.specs.declared.Link.{Link}
use Rattle.record.specs.declared.Sender.{Sender}
use Rattle.data_burst.specs.declared.sending.Sending.{Sending}
use Rattle.limits.specs.Limits.{max_slots, max_pieces, max_taken, max_held}
use Rattle.plan.specs.PlanningCode.{CodesRange, planned}

-- ---- the held list

-- `if parity.is_empty() { self.at_peer.clear() }`; what is past the parity is `at_peer_rest`
unfoldable pub kept_held : AtPeer → ℕ → AtPeer
kept_held h k = cond (eqb k 0) (record { off = h.off; bits = h.bits; n = 0; rest = 0 }) (record { off = h.off; bits = h.bits; n = h.n; rest = h.n - k })

-- ---- cut and merged

-- at a long level every piece fits its frame as it is
abbrev pub cut_at : Bool → Bool → ℕ → List ℕ → List Row → List Row
cut_at long merging payload held rs = cond long (cond merging (merge_rows held payload rs) rs) (split_rows payload rs)

unfoldable pub cut_table : Bool → Bool → ℕ → List ℕ → ℕ → List ℕ → ℕ × List ℕ
cut_table long merging payload held n a = new_table a (cut_at long merging payload held (rows_from a 0 n))

-- ---- what goes

-- no slot, in the arrays of the burst before
abbrev pub slots_in : LastBurst → Slots
slots_in b = record { off = b.off; bits = b.bits; held = b.held; start = replicate max_slots 0; len = replicate max_slots 0; n = 0 }

module _ (q : Harq) (slot payload : ℕ) (s : Sender) (h : AtPeer) (pl : Planned) (n : ℕ) (a : List ℕ) where
  abbrev pub incs : List Slot
  incs = increment_slots q slot (rows_from a 0 n) (take pl.parity h.off) (take pl.parity h.bits)

  abbrev pub olds : List Slot
  olds = take pl.room (unheld_slots (take h.n h.off) slot 0 (rows_from a 0 n))

  -- "Parity first, then oldest pieces, then new"
  unfoldable pub picked : Added × List ℕ
  picked =
      added_pieces a n (pl.room - length olds) payload s.counts.next_offset s.counts.flying s.counts.waiting slot
      (push_all (push_all (slots_in s.last_burst) incs) olds)

  -- what it needs of the numbers
  pub record Pickable : Type 0 where
    pub area : area_bytes ≤ length a
    pub few : n ≤ max_pieces
    pub parity : pl.parity ≤ h.n
    pub held : h.n ≤ max_slots
    pub space : pl.parity + pl.room ≤ max_slots
    pub bits : (j : ℕ) → j < pl.parity → get_or h.bits j 0 + increment_of q (get_or h.bits j 0) slot ≤ max_held
    pub bytes : total (rows_from a 0 n) ≤ stream_bytes
    pub rows : n + (pl.room - length olds) ≤ max_pieces
    pub bound : 1 ≤ payload
    pub taken : s.counts.next_offset + s.counts.waiting ≤ max_taken
    pub stream : s.counts.flying + s.counts.waiting ≤ stream_bytes

-- ---- the next record

abbrev pub awaiting_ack : Link → ℕ → Link
awaiting_ack k number = with_number (with_awaiting k true) number

abbrev pub counts_of : Counts → Added → Counts
counts_of c p =
    with_pieces (with_flying (with_waiting (with_next c (c.next_offset + p.bytes)) (c.waiting - p.bytes)) (c.flying + p.bytes)) p.rows

abbrev pub last_burst_of : Slots → LastBurst
last_burst_of x = record { off = x.off; bits = x.bits; held = x.held; n = x.n }

unfoldable pub next_of : Sender → AtPeer → Added → ℕ → Sender
next_of s h p number =
    with_last_burst (with_at_peer (with_counts (with_link s (awaiting_ack s.link number)) (counts_of s.counts p)) h) (last_burst_of p.slots)

-- ---- put together

module _ (q : Harq) (c : Choice) (payload : ℕ) (merging : Bool) (s : Sender) (a : List ℕ) where
  abbrev pub plan : Planned
  plan = planned q c (take s.at_peer.n s.at_peer.bits)

  abbrev pub held_kept : AtPeer
  held_kept = kept_held s.at_peer plan.parity

  -- how many rows there are, and the work area
  abbrev pub table_recut : ℕ × List ℕ
  table_recut = cut_table c.long merging payload (take held_kept.n held_kept.off) s.counts.pieces a

  abbrev pub gone : Added × List ℕ
  gone = picked q c.slot payload s held_kept plan table_recut.0 table_recut.1

  abbrev pub frame_bytes_gone : ℕ → List ℕ
  frame_bytes_gone size = frames_written size (slots_from gone.0.slots 0 gone.0.slots.n) gone.1

  -- the slots, the plan and the next record; the work area; the output
  unfoldable pub burst_rows : ℕ → ℕ → List ℕ → Sending × (List ℕ × List ℕ)
  burst_rows number size out = (record { slots = gone.0.slots; plan = plan; next = next_of s held_kept gone.0 number }, (gone.1, overwrite out 0 (frame_bytes_gone size)))

  -- what it needs of the numbers
  pub record Ready (size : ℕ) (out : List ℕ) : Type 0 where
    pub codes : CodesRange q c
    pub area : area_bytes ≤ length a
    pub held : s.at_peer.n ≤ max_slots
    pub parity : plan.parity ≤ s.at_peer.n
    pub pieces : s.counts.pieces ≤ max_pieces
    pub bound : 1 ≤ payload
    pub cuts : c.long ≡ false → length (split_rows payload (rows_from a 0 s.counts.pieces)) ≤ max_pieces
    pub ends : (i : ℕ) → i < s.counts.pieces → (row_at a i).off + (row_at a i).len ≤ max_taken
    pub pickable : Pickable q c.slot payload s held_kept plan table_recut.0 table_recut.1
    pub slots : gone.0.slots.n ≤ max_slots
    pub sized : 10 ≤ size
    pub shown : length (frame_bytes_gone size) ≤ length out
    pub fit : SlotsFit size (length gone.1) (slots_from gone.0.slots 0 gone.0.slots.n)
