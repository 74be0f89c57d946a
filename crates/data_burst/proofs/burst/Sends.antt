-- A sound record's burst is one that can go, and what is put together of it is the burst of document 01. Assumes nothing.
use mathlib.Core.Path.{◌≡◌, refl, sym, ap, subst, ◌∙◌}
use mathlib.Core.List.{List, map}
use mathlib.Core.Bool.{true}
use Prim.Native.Nat.{ℕ, ◌*◌, ◌≤◌, ◌<◌}
use native.Mathlib.Omega.{arith}
use borrow.Author.Tests.{leb-true}
use lib.ListN.{length, take, get_or, replicate, length-take}
use Rattle.laws.specs.Bytes.{overwrite}
use Rattle.laws.proofs.Picks.{by, test}
use Rattle.level.specs.Ladder.{long_frame}
use Rattle.header.proofs.Laws.{burst-id-lt}
use Rattle.frame.specs.Frame.{max_payload}
use Rattle.config.specs.Durations.{frame_bytes}
use Rattle.config.specs.declared.Profile.{Profile}
use Rattle.config.specs.Ranged.{Ranged}
use Rattle.config.specs.Ranges.{in_order}
use Rattle.ledger.specs.Ledger.{Sent, Plan, Held, sent_offs, find}
use Rattle.ledger.specs.Plan.{plan_of}
use Rattle.ledger.proofs.Planned.{planned-fits}
use Rattle.ledger.proofs.Burst.{burst-sound}
use Rattle.frames.specs.Slots.{slots_from}
use Rattle.frames.specs.declared.slots.Slot.{Slot}
use Rattle.frames.specs.declared.slots.Slots.{Slots}
use Rattle.pieces.specs.Burst.{frames_sent}
use Rattle.plan.specs.declared.Choice.{Choice}
use Rattle.plan.specs.declared.Planned.{Planned}
use Rattle.record.specs.Airtime.{with_air}
use Rattle.record.specs.Profiles.{sizes_of}
use Rattle.record.specs.View.{view, store, store_area}
use Rattle.record.specs.declared.Sender.{Sender}
use Rattle.record.proofs.View.{Arrays, Counted}
use Rattle.soundness.proofs.fields.Sound.{sound-counted, sound-level, profile-sizes}
use Rattle.outgoing.specs.Choosing.{chosen, choice, next_number}
use Rattle.outgoing.specs.Outgoing.{headed, airtime_of, after, outgoing, airtime, output, burst_of}
use Rattle.outgoing.specs.declared.Frames.{Frames}
use Rattle.outgoing.specs.declared.Outgoing.{Outgoing}
use Rattle.outgoing.proofs.Laws.{slots_length}
use Rattle.outgoing.proofs.Choices.{chosen-codes, choice-ranged}
use Rattle.outgoing.proofs.Answers.{view-bits, sent-within, planned-stored, planned-parity, airtime-is, answer-is}
use Rattle.data_burst.specs.Rows.{burst_rows, Ready}
use Rattle.data_burst.specs.declared.sending.Sending.{Sending}
use Rattle.data_burst.proofs.sending.Bursts as B
use Rattle.data_burst.proofs.burst.Told.{sent-told, frames-told}
use Rattle.limits.specs.Limits.{max_slots, max_bits, max_number}
use Rattle.ledger.specs.LedgerCode.{frames}
use Rattle.ledger.specs.SizesCode.{SizeRange}
use Rattle.pieces.specs.ListsCode.{sent_slots}
use Rattle.plan.specs.PlanningCode.{CodesRange}
use Rattle.soundness.specs.SoundnessCode.{SoundRecord}
use Rattle.outgoing.specs.OutgoingCode.{slot_frames, burst_bits}

pub frame-least : (p : Profile) → Ranged p → (l : ℕ) → 10 ≤ frame_bytes p l
unfolding frame_bytes
frame-least p r l = by (λ (n : ℕ). 10 ≤ n) (long_frame l) (λ e. omega (arith, r.long.0)) (λ e. omega (arith, r.short.0))

module _ (p : Profile) (r : Ranged p) (o : in_order p ≡ true) (s : Sender) (a : List ℕ) (so : SoundRecord p s a) (ar : Arrays s) (six : length p.codes.ends ≤ 6) where
  level : s.gear.level < 17
  level = sound-level p s a so

  abbrev c : Choice
  c = chosen p s.gear s.link

  codes : CodesRange p.codes c
  codes = chosen-codes p r s.gear s.link level six

  numbered : next_number s.link ≤ max_number
  numbered = omega (arith, burst-id-lt s.link.burst_id s.link.heard s.link.peer_heard)

  zr : SizeRange (sizes_of p)
  zr = profile-sizes p r o

  co : Counted s a
  co = sound-counted p s a so

  abbrev g : Plan
  g = plan_of (sizes_of p) (choice p s) (view s a)

  abbrev bs : List ℕ
  bs = take s.at_peer.n s.at_peer.bits

  held : map (λ (h : Held). h.bits) (view s a).held ≡ bs
  held = view-bits s a (ar.held_off ∙ sym ar.held_bits)

  -- ---- the level's frames

  abbrev size : ℕ
  size = frame_bytes p s.gear.level

  payload-is : max_payload size ≡ g.payload
  unfolding chosen frame_bytes
  payload-is = test (long_frame s.gear.level) (λ e. rw e refl) (λ e. rw e refl)

  size-le : size ≤ p.long_bytes
  unfolding frame_bytes in_order
  size-le =
      by (λ (n : ℕ). n ≤ p.long_bytes) (long_frame s.gear.level) (λ e. omega arith) (λ e. leb-true p.short_bytes p.long_bytes o)

  -- ---- the slots

  abbrev slots : Slots
  slots = B.slots (sizes_of p) zr p.codes c p.merge_pieces (next_number s.link) codes numbered s a so.ledger co ar

  abbrev pl : Planned
  pl = B.pl (sizes_of p) zr p.codes c p.merge_pieces (next_number s.link) codes numbered s a so.ledger co ar

  abbrev xs : List Slot
  xs = slots_from slots 0 slots.n

  sent-few : length (after p s a).sent ≤ max_slots
  sent-few =
      omega (arith, (burst-sound (sizes_of p) zr (view s a) g so.ledger (planned-fits (sizes_of p) (choice p s) (view s a) so.ledger (choice-ranged p r s level six))).out_few)

  count : slots.n ≡ length (after p s a).sent
  count = B.slots-count (sizes_of p) zr p.codes c p.merge_pieces (next_number s.link) codes numbered s a so.ledger co ar

  offs : slots.off ≡ overwrite s.last_burst.off 0 (sent_offs (after p s a).sent)
  offs = B.slots-off (sizes_of p) zr p.codes c p.merge_pieces (next_number s.link) codes numbered s a so.ledger co ar

  bits : slots.bits ≡ overwrite s.last_burst.bits 0 (map (λ (f : Sent). f.bits) (after p s a).sent)
  bits = B.slots-bits (sizes_of p) zr p.codes c p.merge_pieces (next_number s.link) codes numbered s a so.ledger co ar

  helds : slots.held ≡ overwrite s.last_burst.held 0 (map (λ (f : Sent). f.held) (after p s a).sent)
  helds = B.slots-held (sizes_of p) zr p.codes c p.merge_pieces (next_number s.link) codes numbered s a so.ledger co ar

  lens : slots.len ≡ overwrite (replicate max_slots 0) 0 (map (λ (f : Sent). length (find f.off (after p s a).pieces)) (after p s a).sent)
  lens = B.slots_len (sizes_of p) zr p.codes c p.merge_pieces (next_number s.link) codes numbered s a so.ledger co ar

  sent : sent_slots xs ≡ (after p s a).sent
  sent = sent-told slots (after p s a) s.last_burst sent-few ar.sent_off ar.sent_bits ar.sent_held count offs bits helds lens

  same : frames (after p s a).pieces (after p s a).sent ≡ map (λ (x : Slot). record { off = x.off; len = x.len }) xs
  same = frames-told slots (after p s a) s.last_burst sent-few ar.sent_off ar.sent_bits ar.sent_held count offs bits helds lens

  xs-count : length xs ≡ slots.n
  xs-count = slots_length slots 0 slots.n

  -- ---- as the code has them: its choice, frame size, payload and number

  module _ (d : Choice) (de : d ≡ c) (n : ℕ) (ne : n ≡ size) (m : ℕ) (me : m ≡ max_payload n) (k : ℕ) (ke : k ≡ next_number s.link) (out : List ℕ)
      (room : max_slots * p.long_bytes ≤ length out) where
    room-so : max_slots * size ≤ length out
    room-so = omega (arith, size-le, room)

    pub ready : Ready p.codes d m p.merge_pieces s a n out
    ready =
        rw (de, me, ne)
        (B.ready (sizes_of p) zr p.codes c p.merge_pieces (next_number s.link) codes numbered s a so.ledger co ar (max_payload size) payload-is size out (omega arith) room-so)

    pub number_lt : k < 4
    number_lt = omega (arith, ke, numbered)

    pub slot-le : d.slot ≤ max_bits
    slot-le = rw de codes.slot.1

    module _ (b : Sending) (a₁ out₁ : List ℕ) (e : (b, (a₁, out₁)) ≡ burst_rows p.codes d m p.merge_pieces s a k n out) where
      abbrev made : Sending × (List ℕ × List ℕ)
      made = (record { slots = slots; plan = pl; next = store (after p s a) s }, (store_area (after p s a) a, overwrite out 0 (frames_sent size (after p s a).pieces (after p s a).sent)))

      made-is : (b, (a₁, out₁)) ≡ made
      made-is =
          e ∙ (λ i. burst_rows p.codes (de i) ((me ∙ ap max_payload ne) i) p.merge_pieces s a (ke i) (ne i) out)
          ∙ B.bursts (sizes_of p) zr p.codes c p.merge_pieces (next_number s.link) codes numbered s a so.ledger co ar (max_payload size) payload-is size out (omega arith) room-so

      slots-are : b.slots ≡ slots
      slots-are = ap (λ (x : Sending × (List ℕ × List ℕ)). x.0.slots) made-is

      plan-is : b.plan ≡ pl
      plan-is = ap (λ (x : Sending × (List ℕ × List ℕ)). x.0.plan) made-is

      next-is : b.next ≡ store (after p s a) s
      next-is = ap (λ (x : Sending × (List ℕ × List ℕ)). x.0.next) made-is

      pub slots-few : b.slots.n ≤ max_slots
      slots-few = omega (arith, ap (λ (x : Slots). x.n) slots-are, count, sent-few)

      pub slots-within : (i : ℕ) → i < b.slots.n → get_or b.slots.bits i 0 ≤ get_or b.slots.held i 0
      slots-within = subst (λ (x : Slots). (i : ℕ) → i < x.n → get_or x.bits i 0 ≤ get_or x.held i 0) (sym slots-are) (sent-within slots g (view s a) sent)

      pub stored-few : b.plan.stored ≤ max_slots
      stored-few = omega (arith, ap (λ (x : Planned). x.stored) plan-is, planned-stored p s a bs held (omega (arith, length-take s.at_peer.n s.at_peer.bits, so.held)))

      pub parity-few : b.plan.parity ≤ b.slots.n
      parity-few = omega (arith, ap (λ (x : Planned). x.parity) plan-is, ap (λ (x : Slots). x.n) slots-are, planned-parity p s a bs held xs sent, xs-count)

      module _ (f : Frames) (fe : f ≡ slot_frames p.codes (slots_from b.slots 0 b.slots.n))
          (h : Outgoing) (he : h ≡ headed p s.gear s.link b.plan.parity b.plan.stored k f)
          (v : ℕ) (ve : v ≡ burst_bits b.plan d.slot b.slots.n)
          (ms : ℕ) (mse : ms ≡ airtime_of p s.gear.level h.cue s.counts.airtime_ms b.slots.n v) where
        frames-are : f ≡ slot_frames p.codes xs
        frames-are = fe ∙ ap (λ (x : Slots). slot_frames p.codes (slots_from x 0 x.n)) slots-are

        answered : h ≡ outgoing p s a
        answered =
            he ∙ (λ i. headed p s.gear s.link (plan-is i).parity (plan-is i).stored (ke i) (frames-are i))
            ∙ answer-is p s a bs held xs sent same

        count-is : b.slots.n ≡ length xs
        count-is = ap (λ (x : Slots). x.n) slots-are ∙ sym xs-count

        counted : ms ≡ airtime p s a s.counts
        counted =
            mse ∙ ap (airtime_of p s.gear.level h.cue s.counts.airtime_ms b.slots.n) ve
            ∙ (λ i. airtime_of p s.gear.level (answered i).cue s.counts.airtime_ms (count-is i) (burst_bits (plan-is i) (de i).slot (count-is i)))
            ∙ airtime-is p s a bs held xs sent s.counts

        pub done : ((h, with_air b.next ms), (a₁, out₁)) ≡ burst_of p s a out
        unfolding burst_of output
        done = λ i. ((answered i, with_air (next-is i) (counted i)), ((made-is i).1.0, (made-is i).1.1))
