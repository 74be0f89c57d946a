-- A burst out of a sound record: it can go, and what it leaves of the record, the work area and the output is what the ledger leaves.
-- Assumes nothing.
use mathlib.Core.Path.{◌≡◌, refl, sym, ap, ap₂, subst, ◌∙◌}
use mathlib.Core.List.{List, [], ◌++◌, map}
use mathlib.Core.Bool.{Bool, cond}
use Prim.Native.Nat.{ℕ, ◌+◌, ◌-◌, ◌*◌, ◌≤◌, ◌<◌}
use native.Mathlib.Omega.{arith}
use native.Mathlib.Nat.{zero-add, mul-le-mul_right}
use lib.ListN.{length, take, get_or, replicate, length-drop, length-append, length-replicate}
use lib.Dec.{eqb}
use lib.Seq.{take-take, take-add, length-take-le, get_or-take}
use Rattle.laws.specs.Bytes.{overwrite, part}
use Rattle.laws.proofs.Bytes.{length_over, length_part, over-cat, over-part}
use Rattle.laws.proofs.Lists.{map-map}
use Rattle.harq.specs.Held.{increment_of}
use Rattle.harq.specs.declared.Harq.{Harq}
use Rattle.frame.specs.Frame.{max_payload}
use Rattle.ledger.specs.Ledger as L
use Rattle.ledger.specs.Ledger.{Held, Sent, Plan, size, bytes_of, held_offs, sent_offs, Frame, find, data_burst}
use Rattle.ledger.specs.Plan as P
use Rattle.ledger.specs.Sound.{Sound, Fits}
use Rattle.ledger.proofs.Planned.{planned-fits}
use Rattle.ledger.proofs.Stream.{stream-burst}
use Rattle.ledger.proofs.Burst.{burst-sound, burst-ascend}
use Rattle.area.specs.Layout.{place, stream_bytes}
use Rattle.area.specs.Table.{row_at, rows_from, table_bytes, total}
use Rattle.area.specs.declared.table.Row.{Row}
use Rattle.area.proofs.table.Laws.{length-table, table-cat, rows_written}
use Rattle.area.specs.Recut.{split_rows}
use Rattle.frames.specs.Slots.{push_all, slots_from, unheld_slots, increment_slots, added_pieces}
use Rattle.frames.specs.declared.slots.Added.{Added}
use Rattle.frames.specs.declared.slots.Slot.{Slot}
use Rattle.frames.specs.declared.slots.Slots.{Slots}
use Rattle.frames.proofs.slots.Laws.{push-all-count, push-all-append}
use Rattle.frames.specs.Frames.{frames_written, SlotsFit}
use Rattle.plan.specs.Planning.{choice_of}
use Rattle.plan.specs.declared.Choice.{Choice}
use Rattle.plan.specs.declared.Planned.{Planned}
use Rattle.plan.proofs.Plans.{plan-is}
use Rattle.plan.proofs.Turns.{parity-le}
use Rattle.plan.proofs.Choices.{choice-range}
use Rattle.plan.proofs.Increments.{increment-range}
use Rattle.pieces.specs.Pieces.{pieces_of}
use Rattle.pieces.specs.Lists.{held_of}
use Rattle.pieces.specs.Burst.{frames_sent}
use Rattle.pieces.proofs.Sound.{size-rows, length-pieces, total-append}
use Rattle.pieces.proofs.Lists.{held-offs, held-length, sent_slots-offs, sent_slots-length}
use Rattle.pieces.proofs.Recut.{recut-pieces, recut-total}
use Rattle.pieces.proofs.Room.{payload-some, split-few, table-few, table-room, rows-small, rows-within}
use Rattle.pieces.proofs.Placed.{frames-length}
use Rattle.pieces.proofs.Carried.{waiting-count, burst-fits, burst-pieces, burst-waiting, burst-next, burst-sent, burst-few, burst-carry, burst-frames, burst-fit}
use Rattle.pieces.proofs.Slots.{push-all-off, push-all-bits, push-all-held, push-all-len, slots_read}
use Rattle.record.specs.Setters.{with_link, with_counts, with_at_peer, with_last_burst, with_next, with_waiting, with_flying, with_pieces, with_acked}
use Rattle.record.specs.declared.AtPeer.{AtPeer}
use Rattle.record.specs.declared.LastBurst.{LastBurst}
use Rattle.record.specs.declared.Sender.{Sender}
use Rattle.record.specs.View.{held_in, view, rows_of, store_area, store_held, store_sent, store_counts, store_link, store}
use Rattle.record.proofs.View.{Counted, Arrays, rows-pieces, bytes-pieces, held-bits-of}
use Rattle.data_burst.specs.declared.sending.Sending.{Sending}
use Rattle.data_burst.specs.Rows.{cut_at, cut_table, slots_in, olds, picked, Pickable, next_of, last_burst_of, counts_of, plan, held_kept, table_recut, gone, burst_rows, Ready}
use Rattle.data_burst.specs.Rows as R
use Rattle.data_burst.proofs.sending.Laws.{kept_off}
use Rattle.data_burst.proofs.sending.Lists.{split-same, cut-recut, small-front, bits_below, kept-list, kept-bits, kept-count, kept_more, kept-rest, frames-before}
use Rattle.limits.specs.Limits.{max_slots, max_pieces, max_taken, max_held, max_number}
use Rattle.ledger.specs.Sizes.{Sizes}
use Rattle.ledger.specs.CoverCode.{Ascend}
use Rattle.ledger.specs.LedgerCode.{frames}
use Rattle.ledger.specs.SizesCode.{SizeRange}
use Rattle.area.specs.TableCode.{with_rows, Small}
use Rattle.pieces.specs.BurstCode.{recut_rows, old_slots, new_rows, new_slots, burst_slots}
use Rattle.pieces.specs.ListsCode.{sent_slots}
use Rattle.plan.specs.PlanningCode.{CodesRange, planned}

module _ (z : Sizes) (zr : SizeRange z) (q : Harq) (c : Choice) (merging : Bool) (number : ℕ) (codes : CodesRange q c) (numbered : number ≤ max_number) (s : Sender) (a : List ℕ)
    (so : Sound z (view s a)) (co : Counted s a) (ar : Arrays s) where
  abbrev l : L.Sender
  l = view s a

  abbrev pub plan_in : Plan
  plan_in = P.plan_of z (choice_of q c merging number) l

  abbrev pub after : L.Sender
  after = data_burst plan_in l

  abbrev g : Plan
  g = plan_in

  abbrev payload : ℕ
  payload = plan_in.payload

  abbrev h : AtPeer
  h = s.at_peer

  abbrev last : LastBurst
  last = s.last_burst

  fi : Fits z l g
  fi = planned-fits z (choice_of q c merging number) l so (choice-range q c merging number codes numbered)

  -- ---- the plan

  abbrev pub pl : Planned
  pl = plan q c payload merging s a

  held-off : length (take h.n h.off) ≡ h.n
  held-off = length-take-le h.n h.off (omega (arith, co.held, ar.held_off))

  held-bits : length (take h.n h.bits) ≡ h.n
  held-bits = length-take-le h.n h.bits (omega (arith, co.held, ar.held_bits))

  bits_are : map (λ (x : Held). x.bits) l.held ≡ take h.n h.bits
  unfolding view
  bits_are = held-bits-of (take h.n h.off) (take h.n h.bits) (held-off ∙ sym held-bits)

  -- the plan's numbers are the ledger's
  pub plan-told : (P.parity z (choice_of q c merging number) l ≡ pl.parity)
      × (P.parity_bits z (choice_of q c merging number) l (P.parity z (choice_of q c merging number) l) ≡ pl.parity_bits)
      × (P.stored z (choice_of q c merging number) l ≡ pl.stored) × (P.room z (choice_of q c merging number) l ≡ pl.room)
  plan-told = plan-is q c merging number z l (take h.n h.bits) bits_are

  par : g.parity ≡ pl.parity
  par = plan-told.0

  rm : g.room ≡ pl.room
  rm = plan-told.3

  parity-held : pl.parity ≤ h.n
  unfolding planned
  parity-held = omega (arith, parity-le q c (take h.n h.bits), held-bits)

  -- ---- the held list

  abbrev kp : AtPeer
  kp = held_kept q c payload merging s a

  abbrev os : List ℕ
  os = take kp.n kp.off

  abbrev hs : List ℕ
  hs = take kp.n kp.bits

  parity-kept : pl.parity ≤ kp.n
  parity-kept = kept_more h pl.parity parity-held

  kept-few : kp.n ≤ max_slots
  kept-few = omega (arith, kept-count h pl.parity, co.held)

  length-os : length os ≡ kp.n
  length-os = length-take-le kp.n kp.off (omega (arith, kept-few, ar.held_off, ap length (kept_off h pl.parity)))

  length-hs : length hs ≡ kp.n
  length-hs = length-take-le kp.n kp.bits (omega (arith, kept-few, ar.held_bits, ap length (kept-bits h pl.parity)))

  sides : length os ≡ length hs
  sides = length-os ∙ sym length-hs

  kept-are : L.kept_at_peer g l ≡ held_of os hs
  unfolding view
  kept-are = ap (λ (k : ℕ). cond (eqb k 0) [] (held_in h)) par ∙ kept-list h pl.parity

  kept-length : length (L.kept_at_peer g l) ≡ kp.n
  kept-length = ap length kept-are ∙ held-length os hs sides ∙ length-os

  kept-offs : held_offs (L.kept_at_peer g l) ≡ os
  kept-offs = ap held_offs kept-are ∙ held-offs os hs sides

  -- ---- the rows, cut and merged

  abbrev rows : List Row
  rows = rows_from a 0 s.counts.pieces

  abbrev rs : List Row
  rs = cut_at c.long merging payload os rows

  stream-fits : s.counts.flying + s.counts.waiting ≤ length a
  stream-fits = omega (arith, co.stream, co.area)

  rows_fit : total rows ≤ length a
  rows_fit = omega (arith, co.flying, stream-fits)

  rs-are : rs ≡ recut_rows g os rows
  unfolding view
  rs-are =
      cut-recut c.long merging payload os rows
      (λ e.
      let p : z.long ≡ payload = rw e in
      split-same payload 0 s.counts.next_offset rows a rows_fit (rw (sym p) so.ascend))

  rs-total : total rs ≡ s.counts.flying
  rs-total = ap total rs-are ∙ recut-total g os rows ∙ co.flying

  pieces_are : L.recut g l ≡ pieces_of rs a
  unfolding view
  pieces_are = recut-pieces g l os rows a rows_fit kept-offs refl ∙ ap (λ (x : List Row). pieces_of x a) (sym rs-are)

  abbrev w : ℕ
  w = s.counts.waiting

  waiting-is : l.waiting ≡ part a (total rs) w
  unfolding view
  waiting-is = ap (λ (k : ℕ). part a k w) (sym rs-total)

  fits-w : total rs + w ≤ length a
  fits-w = omega (arith, rs-total, stream-fits)

  -- ---- the slots

  abbrev new : List Row
  new = new_rows g rs os l.next w

  abbrev pub xs : List Slot
  xs = burst_slots g rs os q hs l.next w

  -- the rows that there are then hold the pieces that fly then
  then-pieces : pieces_of (rs ++ new) a ≡ after.pieces
  then-pieces = burst-pieces z zr l g so fi rs a os hs w pieces_are kept-are sides waiting-is fits-w

  then-fits : total (rs ++ new) ≤ total rs + w
  then-fits = burst-fits z zr l g so fi rs a os hs w pieces_are kept-are sides waiting-is fits-w

  taken : after.next ≤ max_taken
  taken = omega (arith, (burst-sound z zr l g so fi).taken_few)

  then-small : Small (rs ++ new)
  then-small =
      rows-small payload 0 after.next (rs ++ new) a (omega (arith, then-fits, fits-w)) (subst (Ascend payload 0 after.next) (sym then-pieces) (burst-ascend z zr l g so fi)) taken

  few-rows : length rs ≤ max_pieces
  few-rows = table-few z zr l g so fi rs a os hs pieces_are kept-are sides

  abbrev a₁ : List ℕ
  a₁ = with_rows a 0 rs

  rows_back : rows_from a₁ 0 (length rs) ≡ rs
  rows_back = rows_written rs a 0 (small-front rs new then-small) (omega (arith, few-rows, co.area))

  some-offs : take pl.parity kp.off ≡ take g.parity os
  some-offs = sym (take-take pl.parity kp.n kp.off parity-kept) ∙ ap (λ (k : ℕ). take k os) (sym par)

  some_bits : take pl.parity kp.bits ≡ take g.parity hs
  some_bits = sym (take-take pl.parity kp.n kp.bits parity-kept) ∙ ap (λ (k : ℕ). take k hs) (sym par)

  -- what goes, of these rows, with this room, bytes before the waiting ones, and held pieces
  abbrev goes : List Row → ℕ → ℕ → List ℕ → List ℕ → Added × List ℕ
  goes ss room at os₁ hs₁ =
      added_pieces a₁ (length rs) (room - length (take room (unheld_slots os c.slot 0 ss))) payload s.counts.next_offset at w c.slot
      (push_all (push_all (slots_in last) (increment_slots q c.slot ss os₁ hs₁)) (take room (unheld_slots os c.slot 0 ss)))

  -- the slots, how many rows there are and how many bytes went
  abbrev added : Added
  added = record { slots = push_all (slots_in last) xs; rows = length (rs ++ new); bytes = total new }

  gone-goes : gone q c payload merging s a ≡ goes rs g.room (total rs) (take g.parity os) (take g.parity hs)
  unfolding picked cut_table
  gone-goes = λ i. goes (rows_back i) (sym rm i) (sym rs-total i) (some-offs i) (some_bits i)

  area-two : with_rows a₁ (length rs) new ≡ with_rows a 0 (rs ++ new)
  area-two =
      let e : place (length rs) ≡ place 0 + length (table_bytes rs) = omega (arith, length-table rs) in
      ap (λ (k : ℕ). overwrite a₁ k (table_bytes new)) e ∙ over-cat a (place 0) (table_bytes rs) (table_bytes new) ∙ ap (overwrite a (place 0)) (sym (table-cat rs new))

  pub gone-is : gone q c payload merging s a ≡ (added, with_rows a 0 (rs ++ new))
  unfolding added_pieces view
  gone-is =
      let i = increment_slots q c.slot rs (take g.parity os) (take g.parity hs) in
      let o = old_slots g rs os in
      let n = new_slots g rs os l.next w in
      let x : push_all (push_all (push_all (slots_in last) i) o) n ≡ push_all (slots_in last) xs = push-all-append (push_all (slots_in last) i) o n ∙ push-all-append (slots_in last) i (o ++ n) in
      gone-goes ∙ (λ j. (record { slots = x j; rows = sym (length-append rs new) j; bytes = total new }, area-two j))

  -- ---- the burst can go

  ends : (i : ℕ) → i < s.counts.pieces → (row_at a i).off + (row_at a i).len ≤ max_taken
  unfolding view
  ends i k =
      let e = rows-within z.long 0 s.counts.next_offset 0 s.counts.pieces a a rows_fit so.ascend i k in
      let f : (row_at a (0 + i)).off + (row_at a (0 + i)).len ≡ (row_at a i).off + (row_at a i).len = ap (λ (j : ℕ). (row_at a j).off + (row_at a j).len) (zero-add i) in
      omega (arith, so.taken_few)

  length-waiting : length l.waiting ≡ w
  length-waiting = waiting-count z zr l g so fi rs a os hs w pieces_are kept-are sides waiting-is fits-w

  taken-few : s.counts.next_offset + w ≤ max_taken
  unfolding view
  taken-few = omega (arith, so.taken_few, length-waiting)

  old-is : length (olds q c.slot payload s kp pl (length rs) a₁) ≡ length (old_slots g rs os)
  old-is = λ i. length (take (sym rm i) (unheld_slots os c.slot 0 (rows_back i)))

  held_fits : (j : ℕ) → j < pl.parity → get_or kp.bits j 0 + increment_of q (get_or kp.bits j 0) c.slot ≤ max_held
  unfolding view
  held_fits j k =
      let b : get_or (take h.n h.bits) j 0 < z.top = bits_below z.top (take h.n h.off) (take h.n h.bits) (held-off ∙ sym held-bits) so.held_bits j (omega (arith, held-bits, parity-held)) in
      let e : get_or (take h.n h.bits) j 0 ≡ get_or kp.bits j 0 = get_or-take h.n h.bits j 0 (omega (arith, parity-held)) ∙ ap (λ (x : List ℕ). get_or x j 0) (sym (kept-bits h pl.parity)) in
      omega (arith, zr.bits, (increment-range q c codes (get_or kp.bits j 0)).1)

  pickable : Pickable q c.slot payload s kp pl (table_recut q c payload merging s a).0 (table_recut q c payload merging s a).1
  unfolding cut_table
  pickable =
      record {
        area = omega (arith, co.area, length_over a (place 0) (table_bytes rs));
        few = few-rows;
        parity = parity-kept;
        held = kept-few;
        space = omega (arith, fi.room, kept-length, parity-kept, rm);
        bits = held_fits;
        bytes = omega (arith, ap total rows_back, rs-total, co.stream);
        rows = omega (arith, table-room z zr l g so fi rs a os hs pieces_are kept-are sides, old-is, rm);
        bound = payload-some z zr l g so fi;
        taken = taken-few;
        stream = co.stream;
      }

  same : (k : ℕ) → g.increment k ≡ increment_of q k g.slot
  same k = refl

  few-slots : length xs ≤ max_slots
  few-slots = burst-few z zr l g so fi rs a os hs w pieces_are kept-are sides waiting-is fits-w q same

  count-slots : added.slots.n ≡ length xs
  count-slots = push-all-count (slots_in last) xs ∙ zero-add (length xs)

  slots-back : slots_from added.slots 0 added.slots.n ≡ xs
  slots-back =
      let n = length-replicate {A = ℕ} max_slots 0 in
      ap (slots_from added.slots 0) count-slots ∙ slots_read (slots_in last) xs (ar.sent_off, ar.sent_bits, ar.sent_held, n, n) (omega (arith, few-slots))

  cuts : length (split_rows payload rows) ≤ max_pieces
  unfolding view
  cuts = split-few z zr l g so fi rows a rows_fit refl

  -- ---- with the level's payload m, frames of `size` bytes that have room for it, and an output that has room for 64 of them
  module _ (m : ℕ) (level : m ≡ plan_in.payload) (size : ℕ) (out : List ℕ) (frame : m ≤ max_payload size) (room : max_slots * size ≤ length out) where
    fit : (used : ℕ) → total rs + w ≤ used → SlotsFit size used xs
    fit used u = burst-fit z zr l g so fi rs a os hs w pieces_are kept-are sides waiting-is fits-w q size used (omega (arith, level, frame)) u

    sized : 10 ≤ size
    sized = omega (arith, level, frame, payload-some z zr l g so fi)

    -- the frames that are written are those of the ledger's pieces
    frames-are : R.frame_bytes_gone q c payload merging s a size ≡ frames_sent size after.pieces after.sent
    frames-are =
        ap (λ (x : Added × List ℕ). frames_written size (slots_from x.0.slots 0 x.0.slots.n) x.1) gone-is
        ∙ ap (λ (ys : List Slot). frames_written size ys (with_rows a 0 (rs ++ new))) slots-back
        ∙ frames-before size stream_bytes xs a (place 0) (table_bytes (rs ++ new)) (fit stream_bytes (omega (arith, rs-total, co.stream))) (omega arith)
        ∙ burst-carry z zr l g so fi rs a os hs w pieces_are kept-are sides waiting-is fits-w q same size

    shown : length (R.frame_bytes_gone q c payload merging s a size) ≤ length out
    shown =
        let e : frames_sent size after.pieces after.sent ≡ frames_written size xs a = sym (burst-carry z zr l g so fi rs a os hs w pieces_are kept-are sides waiting-is fits-w q same size) in
        omega (
          arith,
          ap length (frames-are ∙ e),
          frames-length size a xs sized (fit (length a) fits-w),
          mul-le-mul_right size few-slots,
        )

    ready-so : Ready q c payload merging s a size out
    ready-so =
        record {
          codes = codes;
          area = co.area;
          held = co.held;
          parity = parity-held;
          pieces = co.pieces;
          bound = payload-some z zr l g so fi;
          cuts = λ e. cuts;
          ends = ends;
          pickable = pickable;
          slots = omega (arith, ap (λ (x : Added × List ℕ). x.0.slots.n) gone-is, count-slots, few-slots);
          sized = sized;
          shown = shown;
          fit = rw (gone-is, slots-back, length_over a (place 0) (table_bytes (rs ++ new))) (fit (length a) fits-w);
        }

    -- what the code needs of the numbers holds
    pub ready : Ready q c m merging s a size out
    ready = subst (λ (k : ℕ). Ready q c k merging s a size out) (sym level) ready-so

  -- ---- what is left is the ledger's

  sent_is : sent_slots xs ≡ after.sent
  sent_is = burst-sent z zr l g so fi rs a os hs w pieces_are kept-are sides waiting-is fits-w q same

  -- the work area: no byte of the stream moves
  stream-same : overwrite a 0 (bytes_of after.pieces ++ after.waiting) ≡ a
  unfolding view
  stream-same =
      ap (overwrite a 0)
      (stream-burst g l
      ∙ ap (λ (b : List ℕ). b ++ part a s.counts.flying w) (bytes-pieces rows a ∙ ap (λ (k : ℕ). take k a) co.flying)
      ∙ sym (take-add s.counts.flying w a))
      ∙ over-part a 0 (s.counts.flying + w)

  rows_then : rows_of after.pieces ≡ rs ++ new
  rows_then = ap rows_of (sym then-pieces) ∙ rows-pieces (rs ++ new) a (omega (arith, then-fits, fits-w))

  area-after : with_rows a 0 (rs ++ new) ≡ store_area after a
  unfolding store_area
  area-after = sym (ap₂ (λ (b : List ℕ) (ss : List Row). overwrite b (place 0) (table_bytes ss)) stream-same rows_then)

  -- the counts
  next-is : after.next ≡ s.counts.next_offset + total new
  unfolding view
  next-is = burst-next z zr l g so fi rs a os hs w pieces_are kept-are sides waiting-is fits-w

  acked-is : s.counts.bytes_acked ≡ after.acked
  unfolding data_burst view
  acked-is = refl

  new-few : total new ≤ w
  new-few = omega (arith, then-fits, total-append rs new)

  counts-after : counts_of s.counts added ≡ store_counts after s.counts
  unfolding store_counts
  counts-after =
      let e₁ : w - total new ≡ length after.waiting =
      sym (ap length (burst-waiting z zr l g so fi rs a os hs w pieces_are kept-are sides waiting-is fits-w) ∙ length_part a (total (rs ++ new)) (w - total new) (omega (arith, total-append rs new, fits-w, new-few))) in
      let e₂ : s.counts.flying + total new ≡ size after.pieces =
      omega (arith, ap size then-pieces, size-rows (rs ++ new) a (omega (arith, then-fits, fits-w)), total-append rs new, rs-total) in
      let e₃ : length (rs ++ new) ≡ length after.pieces = sym (length-pieces (rs ++ new) a) ∙ ap length then-pieces in
      λ i. with_acked (with_pieces (with_flying (with_waiting (with_next s.counts (sym next-is i)) (e₁ i)) (e₂ i)) (e₃ i)) (acked-is i)

  -- the held list
  rest-length : length after.rest ≡ kp.rest
  unfolding data_burst
  rest-length = omega (arith, length-drop g.parity (L.kept_at_peer g l), kept-length, par, kept-rest h pl.parity)

  bits-kept : map (λ (x : Held). x.bits) (L.kept_at_peer g l) ≡ hs
  bits-kept = ap (map (λ (x : Held). x.bits)) kept-are ∙ held-bits-of os hs sides

  held_after : kp ≡ store_held after h
  unfolding store_held data_burst
  held_after =
      let o : overwrite h.off 0 (held_offs (L.kept_at_peer g l)) ≡ h.off =
      ap (overwrite h.off 0) (kept-offs ∙ ap (take kp.n) (kept_off h pl.parity)) ∙ over-part h.off 0 kp.n in
      let b : overwrite h.bits 0 (map (λ (x : Held). x.bits) (L.kept_at_peer g l)) ≡ h.bits =
      ap (overwrite h.bits 0) (bits-kept ∙ ap (take kp.n) (kept-bits h pl.parity)) ∙ over-part h.bits 0 kp.n in
      λ i. record { off = (kept_off h pl.parity ∙ sym o) i; bits = (kept-bits h pl.parity ∙ sym b) i; n = sym kept-length i; rest = sym rest-length i }

  -- the outstanding burst
  sent-after : last_burst_of added.slots ≡ store_sent after last
  unfolding store_sent
  sent-after =
      let o : map (λ (x : Slot). x.off) xs ≡ sent_offs after.sent = sym (sent_slots-offs xs) ∙ ap sent_offs sent_is in
      let b : map (λ (x : Slot). x.bits) xs ≡ map (λ (f : Sent). f.bits) after.sent =
      sym (map-map (λ (f : Sent). f.bits) (λ (x : Slot). record { off = x.off; bits = x.bits; held = x.held }) xs) ∙ ap (map (λ (f : Sent). f.bits)) sent_is in
      let k : map (λ (x : Slot). x.held) xs ≡ map (λ (f : Sent). f.held) after.sent =
      sym (map-map (λ (f : Sent). f.held) (λ (x : Slot). record { off = x.off; bits = x.bits; held = x.held }) xs) ∙ ap (map (λ (f : Sent). f.held)) sent_is in
      let n : added.slots.n ≡ length after.sent = count-slots ∙ sym (sent_slots-length xs) ∙ ap length sent_is in
      λ i. record {
        off = (push-all-off (slots_in last) xs ∙ ap (overwrite last.off 0) o) i;
        bits = (push-all-bits (slots_in last) xs ∙ ap (overwrite last.bits 0) b) i;
        held = (push-all-held (slots_in last) xs ∙ ap (overwrite last.held 0) k) i;
        n = n i;
      }

  next-after : next_of s kp added number ≡ store after s
  unfolding next_of store store_link data_burst
  next-after =
      λ i. with_last_burst (with_at_peer (with_counts (with_link s (store_link after s.link)) (counts-after i)) (held_after i)) (sent-after i)

  -- each frame's offset and length, as the answer tells them
  frames-told : frames after.pieces after.sent ≡ map (λ (x : Slot). record { off = x.off; len = x.len }) xs
  frames-told = burst-frames z zr l g so fi rs a os hs w pieces_are kept-are sides waiting-is fits-w q same

  -- the slots of the burst, as arrays
  abbrev pub slots : Slots
  slots = (gone q c payload merging s a).0.slots

  slots-are : slots ≡ added.slots
  slots-are = ap (λ (x : Added × List ℕ). x.0.slots) gone-is

  last-is : last_burst_of slots ≡ store_sent after last
  last-is = ap last_burst_of slots-are ∙ sent-after

  pub slots_len : slots.len ≡ overwrite (replicate max_slots 0) 0 (map (λ (f : Sent). length (find f.off after.pieces)) after.sent)
  slots_len =
      let e : map (λ (x : Slot). x.len) xs ≡ map (λ (f : Sent). length (find f.off after.pieces)) after.sent =
      sym (map-map (λ (f : Frame). f.len) (λ (x : Slot). record { off = x.off; len = x.len }) xs)
      ∙ ap (map (λ (f : Frame). f.len)) (sym frames-told)
      ∙ map-map (λ (f : Frame). f.len) (λ (f : Sent). record { off = f.off; len = length (find f.off after.pieces) }) after.sent in
      ap (λ (x : Slots). x.len) slots-are ∙ push-all-len (slots_in last) xs ∙ ap (overwrite (replicate max_slots 0) 0) e

  pub slots-off : slots.off ≡ overwrite last.off 0 (sent_offs after.sent)
  unfolding store_sent
  slots-off = ap (λ (x : LastBurst). x.off) last-is

  pub slots-bits : slots.bits ≡ overwrite last.bits 0 (map (λ (f : Sent). f.bits) after.sent)
  unfolding store_sent
  slots-bits = ap (λ (x : LastBurst). x.bits) last-is

  pub slots-held : slots.held ≡ overwrite last.held 0 (map (λ (f : Sent). f.held) after.sent)
  unfolding store_sent
  slots-held = ap (λ (x : LastBurst). x.held) last-is

  pub slots-count : slots.n ≡ length after.sent
  unfolding store_sent
  slots-count = ap (λ (x : LastBurst). x.n) last-is

  -- the next record, the work area and the output are those that hold what the ledger leaves
  module _ (m : ℕ) (level : m ≡ plan_in.payload) (size : ℕ) (out : List ℕ) (frame : m ≤ max_payload size) (room : max_slots * size ≤ length out) where
    abbrev made : Sending × (List ℕ × List ℕ)
    made = (record { slots = slots; plan = pl; next = store after s }, (store_area after a, overwrite out 0 (frames_sent size after.pieces after.sent)))

    bursts-so : burst_rows q c payload merging s a number size out ≡ made
    unfolding burst_rows
    bursts-so =
        λ i. (
          record { slots = slots; plan = pl; next = (ap (λ (x : Added × List ℕ). next_of s kp x.0 number) gone-is ∙ next-after) i },
          ((ap (λ (x : Added × List ℕ). x.1) gone-is ∙ area-after) i, overwrite out 0 (frames-are m level size out frame room i)),
        )

    pub bursts : burst_rows q c m merging s a number size out
        ≡ (record { slots = slots; plan = pl; next = store after s }, (store_area after a, overwrite out 0 (frames_sent size after.pieces after.sent)))
    bursts = ap (λ (k : ℕ). burst_rows q c k merging s a number size out) level ∙ bursts-so
