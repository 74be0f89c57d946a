-- The test of the sound record is `SoundRecord`, both ways; what follows from it for callers; a fresh record is sound.
-- Assumes nothing.
use mathlib.Core.Path.{◌≡◌, refl, sym, ap, ap₂, subst, ◌∙◌}
use mathlib.Core.Bool.{true, not, ◌&&◌}
use mathlib.Core.List.{List, [], ◌∷◌, ◌++◌}
use Prim.Native.Nat.{ℕ, zero, suc, ◌+◌, ◌-◌, ◌≤◌, ◌<◌}
use native.Mathlib.Omega.{arith}
use borrow.Author.Tests.{leb-true, le-leb, eq-eqb}
use lib.ListN.{length, take, drop, length-take, length-drop, take-append-drop}
use lib.Seq.{length-take-le}
use lib.Ieee.{le, lt, eq, neg, of_int, of_bits}
use Rattle.ieee.specs.Range.{inside}
use Rattle.laws.specs.Bytes.{part}
use Rattle.laws.specs.Lists.{listed}
use Rattle.laws.specs.Tests.{all}
use Rattle.laws.specs.Span.{from, upto, every}
use Rattle.laws.proofs.Bytes.{length_part}
use Rattle.laws.proofs.Lists.{map-drop}
use Rattle.laws.proofs.Picks.{and_second}
use Rattle.laws.proofs.Tests.{all-at, all_none, all_more}
use Rattle.config.specs.declared.Profile.{Profile}
use Rattle.config.specs.Ranges.{in_order}
use Rattle.config.specs.Ranged.{Ranged}
use Rattle.ledger.specs.Ledger.{Held, size, held_offs, sent_offs}
use Rattle.ledger.specs.Sound.{Sound, Flying}
use Rattle.ledger.proofs.Stream.{length-bytes_of}
use Rattle.ledger.proofs.Kept.{fresh-sound}
use Rattle.area.specs.Layout.{area_bytes}
use Rattle.area.specs.Table.{rows_from, total}
use Rattle.area.specs.declared.table.Row.{Row}
use Rattle.area_check.specs.Rows.{row_offs, table_ok, all_flying}
use Rattle.pieces.specs.Pieces.{pieces_of}
use Rattle.pieces.proofs.Lists.{held-offs, held-length, sent-offs, sent-length}
use Rattle.pieces.proofs.Sound.{size-rows, table-total, table-pieces, pieces-table, flying-pieces, pieces-flying, flying-two, two-flying, held-bits, bits-held, sent-bits, bits-sent}
use Rattle.record.specs.Fresh.{fresh, fresh_gear, fresh_link}
use Rattle.record.specs.Profiles.{sizes_of}
use Rattle.record.specs.View.{held_in, rest_in, sent_in, view}
use Rattle.record.specs.declared.AtPeer.{AtPeer}
use Rattle.record.specs.declared.LastBurst.{LastBurst}
use Rattle.record.specs.declared.Sender.{Sender}
use Rattle.record.proofs.View.{Arrays, Counted, bytes-pieces, view-fresh}
use Rattle.settle.specs.Settle.{Settling}
use Rattle.soundness.specs.Soundness.{kept_ok, kept_if_ok, reports_ok, remembered_ok, gear_ok, link_ok, counts_ok, lists_ok, sound_ok}
use Rattle.soundness.proofs.fields.Counts.{held-few, rest-few, out-few, sent-few, waiting_few, flying-few, pieces-within, taken-few, acked-is}
use Rattle.soundness.proofs.fields.Gear.{gear-sound, sound-gear, link-sound, sound-link}
use Rattle.limits.specs.Limits.{max_slots, max_flying, max_waiting, max_taken, max_number}
use Rattle.ledger.specs.SizesCode.{SizeRange}
use Rattle.soundness.specs.SoundnessCode.{SoundRecord}

-- ---- lists

-- a tail of distinct, flying offsets
drop-flying : (k : ℕ) (xs os : List ℕ) → all_flying xs os ≡ true → all_flying (drop k xs) os ≡ true
unfolding all_flying
drop-flying zero xs os h = h
drop-flying (suc k) [] os h = h
drop-flying (suc k) (x ∷ xs) os h = drop-flying k xs os (and_second (listed x os && not (listed x xs)) (all_flying xs os) h)

-- pieces take no more than there is: where they leave bytes over, the rows fit
rows_fit : (rs : List Row) (st : List ℕ) → size (pieces_of rs st) < length st → total rs ≤ length st
rows_fit rs st h = omega (arith, length-bytes_of (pieces_of rs st), ap length (bytes-pieces rs st), length-take (total rs) st)

-- ---- the record's arrays, with counts that they can have

module _ (s : Sender) (ar : Arrays s) (held : s.at_peer.n ≤ max_slots) (rest : s.at_peer.rest ≤ s.at_peer.n) (sent : s.last_burst.n ≤ max_slots) where
  abbrev h : AtPeer
  h = s.at_peer

  abbrev b : LastBurst
  b = s.last_burst

  held-off-length : length (take h.n h.off) ≡ h.n
  held-off-length = length-take-le h.n h.off (omega (arith, held, ar.held_off))

  held_same : length (take h.n h.off) ≡ length (take h.n h.bits)
  held_same = held-off-length ∙ sym (length-take-le h.n h.bits (omega (arith, held, ar.held_bits)))

  sent-off-length : length (take b.n b.off) ≡ b.n
  sent-off-length = length-take-le b.n b.off (omega (arith, sent, ar.sent_off))

  sent-same : length (take b.n b.off) ≡ length (take b.n b.bits)
  sent-same = sent-off-length ∙ sym (length-take-le b.n b.bits (omega (arith, sent, ar.sent_bits)))

  sent-held-same : length (take b.n b.off) ≡ length (take b.n b.held)
  sent-held-same = sent-off-length ∙ sym (length-take-le b.n b.held (omega (arith, sent, ar.sent_held)))

  held-count : length (held_in h) ≡ h.n
  held-count = held-length (take h.n h.off) (take h.n h.bits) held_same ∙ held-off-length

  rest-count : length (rest_in h) ≡ h.rest
  rest-count = omega (arith, length-drop (h.n - h.rest) (held_in h), held-count, rest)

  sent-count : length (sent_in b) ≡ b.n
  sent-count = sent-length (take b.n b.off) (take b.n b.bits) (take b.n b.held) sent-same sent-held-same ∙ sent-off-length

  held-are : held_offs (held_in h) ≡ take h.n h.off
  held-are = held-offs (take h.n h.off) (take h.n h.bits) held_same

  rest-are : held_offs (rest_in h) ≡ drop (h.n - h.rest) (take h.n h.off)
  rest-are = map-drop (λ (x : Held). x.off) (h.n - h.rest) (held_in h) ∙ ap (drop (h.n - h.rest)) held-are

  sent-are : sent_offs (sent_in b) ≡ take b.n b.off
  sent-are = sent-offs (take b.n b.off) (take b.n b.bits) (take b.n b.held) sent-same sent-held-same

  out-are : sent_offs (sent_in b) ++ held_offs (rest_in h) ≡ take b.n b.off ++ drop (h.n - h.rest) (take h.n h.off)
  out-are = ap₂ (λ (x y : List ℕ). x ++ y) sent-are rest-are

-- ---- from the test to the facts

module _ (p : Profile) (s : Sender) (a : List ℕ) (ar : Arrays s) where
  abbrev rows : List Row
  rows = rows_from a 0 s.counts.pieces

  module _ (area : area_bytes ≤ length a) (c : counts_ok s ≡ true)
      (t : table_ok (sizes_of p).short (sizes_of p).long s.counts.next_offset s.counts.flying rows ≡ true)
      (l : lists_ok (sizes_of p).top s.at_peer s.last_burst (row_offs rows) ≡ true)
      (number : s.link.burst_id ≤ max_number) where
    total-is : total rows ≡ s.counts.flying
    total-is = table-total (sizes_of p).short (sizes_of p).long s.counts.next_offset s.counts.flying rows t

    fits : total rows ≤ length a
    fits = omega (arith, total-is, flying-few s c, area)

    waiting-is : length (part a s.counts.flying s.counts.waiting) ≡ s.counts.waiting
    waiting-is = length_part a s.counts.flying s.counts.waiting (omega (arith, flying-few s c, waiting_few s c, area))

    ledger-sound : Sound (sizes_of p) (view s a)
    unfolding view lists_ok
    ledger-sound =
        let hf = held-few s c in
        let rf = rest-few s c in
        let sf = sent-few s c in
        let e = table-pieces (sizes_of p).short (sizes_of p).long s.counts.next_offset s.counts.flying rows a fits t in
        let k = s.at_peer.n - s.at_peer.rest in
        let xs = take s.at_peer.n s.at_peer.off in
        let ys = take s.last_burst.n s.last_burst.off in
        let hl : all_flying xs (row_offs rows) ≡ true = all-at _ 0 l in
        record {
          ascend = e.0;
          bytes = omega (arith, e.1, flying-few s c);
          shorts = e.2;
          held_few = omega (arith, held-count s ar hf rf sf, hf);
          held_flying = subst (λ (os : List ℕ). Flying os (pieces_of rows a)) (sym (held-are s ar hf rf sf)) (flying-pieces rows a xs hl);
          held_bits = held-bits (sizes_of p).top xs (take s.at_peer.n s.at_peer.bits) (all-at _ 1 l);
          tail = (take k (held_in s.at_peer), sym (take-append-drop k (held_in s.at_peer)));
          out_few = omega (arith, sent-count s ar hf rf sf, rest-count s ar hf rf sf, out-few s c);
          out_flying = subst (λ (os : List ℕ). Flying os (pieces_of rows a)) (sym (out-are s ar hf rf sf)) (flying-two rows a ys (drop k xs) (all-at _ 2 l) (drop-flying k xs (row_offs rows) hl) (all-at _ 3 l));
          sent_bits = sent-bits ys (take s.last_burst.n s.last_burst.bits) (take s.last_burst.n s.last_burst.held) (all-at _ 4 l);
          few_waiting = omega (arith, waiting-is, waiting_few s c);
          taken_few = omega (arith, waiting-is, taken-few s c);
          sum = omega (arith, e.1, acked-is s c);
          number = number;
        }

  pub test-sound : sound_ok p s a ≡ true → SoundRecord p s a
  unfolding sound_ok
  test-sound e =
      let area = leb-true area_bytes (length a) (all-at _ 0 e) in
      let c : counts_ok s ≡ true = all-at _ 1 e in
      let t : table_ok (sizes_of p).short (sizes_of p).long s.counts.next_offset s.counts.flying rows ≡ true = all-at _ 2 e in
      let k = link-sound s.link (all-at _ 5 e) in
      record {
        area = area;
        held = held-few s c;
        rest = rest-few s c;
        sent = sent-few s c;
        pieces = pieces-within s c;
        flying = table-total (sizes_of p).short (sizes_of p).long s.counts.next_offset s.counts.flying rows t;
        ledger = ledger-sound area c t (all-at _ 3 e) k.number;
        gear = gear-sound s.gear (all-at _ 4 e);
        link = k;
      }

-- ---- from the facts: what callers need, and the test

module _ (p : Profile) (s : Sender) (a : List ℕ) (so : SoundRecord p s a) where
  abbrev rows₂ : List Row
  rows₂ = rows_from a 0 s.counts.pieces

  few : size (pieces_of rows₂ a) ≤ max_flying
  unfolding view
  few = so.ledger.bytes

  rows_in : total rows₂ ≤ length a
  rows_in = rows_fit rows₂ a (omega (arith, few, so.area))

  flying-is : size (pieces_of rows₂ a) ≡ s.counts.flying
  flying-is = size-rows rows₂ a rows_in ∙ so.flying

  flying-most : s.counts.flying ≤ max_flying
  flying-most = omega (arith, flying-is, few)

  waiting-most : s.counts.waiting ≤ max_waiting
  unfolding view
  waiting-most = omega (arith, so.ledger.few_waiting, length-take s.counts.waiting (drop s.counts.flying a), length-drop s.counts.flying a, flying-most, so.area)

  waits-are : length (part a s.counts.flying s.counts.waiting) ≡ s.counts.waiting
  waits-are = length_part a s.counts.flying s.counts.waiting (omega (arith, flying-most, waiting-most, so.area))

  taken-most : s.counts.next_offset + s.counts.waiting ≤ max_taken
  unfolding view
  taken-most = omega (arith, so.ledger.taken_few, waits-are)

  next-is : s.counts.bytes_acked + s.counts.flying ≡ s.counts.next_offset
  unfolding view
  next-is = omega (arith, so.ledger.sum, flying-is)

  -- the counts go with the arrays and the work area
  pub sound-counted : Counted s a
  sound-counted =
      record {
        area = so.area;
        held = so.held;
        rest = so.rest;
        sent = so.sent;
        pieces = so.pieces;
        flying = so.flying;
        stream = omega (arith, flying-most, waiting-most);
      }

  pub sound-level : s.gear.level < 17
  sound-level = so.gear.level

  module _ (ar : Arrays s) where
    out-most : s.last_burst.n + s.at_peer.rest ≤ max_slots
    unfolding view
    out-most = omega (arith, so.ledger.out_few, sent-count s ar so.held so.rest so.sent, rest-count s ar so.held so.rest so.sent)

    -- the outstanding burst can be settled
    pub sound-settling : Settling s a
    sound-settling =
        record {
          area = so.area;
          held = so.held;
          rest = so.rest;
          out = out-most;
          waits = waiting-most;
          flies = flying-most;
          pieces = so.pieces;
          flying = so.flying;
          acked = omega (arith, next-is, taken-most);
        }

    counts-hold : counts_ok s ≡ true
    unfolding counts_ok
    counts-hold =
        all_more _ _ (le-leb _ _ so.held) (all_more _ _ (le-leb _ _ so.rest) (all_more _ _ (le-leb _ _ out-most) (all_more _ _ (le-leb _ _ waiting-most)
        (all_more _ _ (le-leb _ _ flying-most) (all_more _ _ (le-leb _ _ so.pieces) (all_more _ _ (le-leb _ _ taken-most) (all_more _ _ (eq-eqb _ _ next-is) all_none)))))))

    table-holds : table_ok (sizes_of p).short (sizes_of p).long s.counts.next_offset s.counts.flying rows₂ ≡ true
    unfolding view
    table-holds =
        pieces-table (sizes_of p).short (sizes_of p).long s.counts.next_offset s.counts.flying rows₂ a rows_in so.ledger.ascend flying-is so.ledger.shorts

    lists-hold : lists_ok (sizes_of p).top s.at_peer s.last_burst (row_offs rows₂) ≡ true
    unfolding view lists_ok
    lists-hold =
        let k = s.at_peer.n - s.at_peer.rest in
        let xs = take s.at_peer.n s.at_peer.off in
        let ys = take s.last_burst.n s.last_burst.off in
        let hf = subst (λ (os : List ℕ). Flying os (pieces_of rows₂ a)) (held-are s ar so.held so.rest so.sent) so.ledger.held_flying in
        let of = two-flying rows₂ a ys (drop k xs) (subst (λ (os : List ℕ). Flying os (pieces_of rows₂ a)) (out-are s ar so.held so.rest so.sent) so.ledger.out_flying) in
        let hb = bits-held (sizes_of p).top xs (take s.at_peer.n s.at_peer.bits) (held_same s ar so.held so.rest so.sent) so.ledger.held_bits in
        let sb = bits-sent ys (take s.last_burst.n s.last_burst.bits) (take s.last_burst.n s.last_burst.held) (sent-same s ar so.held so.rest so.sent) (sent-held-same s ar so.held so.rest so.sent) so.ledger.sent_bits in
        all_more _ _ (pieces-flying rows₂ a xs hf) (all_more _ _ hb (all_more _ _ of.0 (all_more _ _ of.2 (all_more _ _ sb all_none))))

    pub sound-test : sound_ok p s a ≡ true
    unfolding sound_ok
    sound-test =
        all_more _ _ (le-leb _ _ so.area) (all_more _ _ counts-hold (all_more _ _ table-holds (all_more _ _ lists-hold
        (all_more _ _ (sound-gear s.gear so.gear) (all_more _ _ (sound-link s.link so.link) all_none)))))

-- ---- the profile

-- a profile that is not refused by 1 or 2
pub profile-sizes : (p : Profile) → Ranged p → in_order p ≡ true → SizeRange (sizes_of p)
unfolding in_order
profile-sizes p r o =
    record {
      least = omega (arith, r.short.0);
      order = omega (arith, leb-true p.short_bytes p.long_bytes o);
      most = omega arith;
      bits = omega (arith, r.codes.mother.1);
    }

-- ---- a fresh record

fresh-gear : gear_ok fresh_gear ≡ true
unfolding all from upto every inside kept_ok kept_if_ok reports_ok remembered_ok gear_ok le lt eq neg of_int of_bits
fresh-gear = refl

fresh-link : link_ok fresh_link ≡ true
unfolding all inside link_ok le lt eq neg of_int of_bits
fresh-link = refl

pub fresh-is-sound : (p : Profile) (a : List ℕ) → area_bytes ≤ length a → SoundRecord p fresh a
unfolding total
fresh-is-sound p a h =
    record {
      area = h;
      held = omega arith;
      rest = omega arith;
      sent = omega arith;
      pieces = omega arith;
      flying = refl;
      ledger = subst (Sound (sizes_of p)) (sym (view-fresh a)) (fresh-sound (sizes_of p));
      gear = gear-sound fresh_gear fresh-gear;
      link = link-sound fresh_link fresh-link;
    }

pub fresh-arrays : Arrays fresh
fresh-arrays = record { held_off = refl; held_bits = refl; sent_off = refl; sent_bits = refl; sent_held = refl }

pub fresh-test : (p : Profile) (a : List ℕ) → area_bytes ≤ length a → sound_ok p fresh a ≡ true
fresh-test p a h = sound-test p fresh a (fresh-is-sound p a h) fresh-arrays
