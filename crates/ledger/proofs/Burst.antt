-- A burst keeps the record sound and in agreement with the tally, and held pieces as they are.
-- Assumes nothing.
use Prim.Native.Nat.{ℕ, zero, suc, ◌+◌, ◌-◌, ◌≤◌}
use mathlib.Core.Path.{◌≡◌, refl, sym, ap, ◌∙◌}
use mathlib.Core.Logic.{⊎_elim}
use mathlib.Core.Bool.{true, cond}
use mathlib.Core.List.{List, [], ◌∷◌, ◌++◌, map, append-nil}
use mathlib.Core.Option.{some}
use native.Mathlib.Nat.{mul-le-mul, le_trans}
use native.Mathlib.Omega.{arith}
use lib.Dec.{eqb, ltb}
use lib.ListN.{length, take, drop, take-append-drop, length-append, length-drop, length-take}
use borrow.Author.Tests.{eqb-false, ltb-true, ltb-false}
use Rattle.laws.specs.Lists.{occurs}
use Rattle.laws.proofs.Picks.{test, by}
use Rattle.laws.proofs.Lists.{map-map, occurs-append, occurs-take, map-append}
use Rattle.ledger.specs.Ledger.{size, Piece, find, increments, Plan, Held, Sent, wholes, Sender, held_offs, recut, split, kept_at_peer, offs, old_offs, unheld, new_pieces, slots, sent_offs, data_burst}
use Rattle.ledger.specs.Tally.{unacked, furthest, Tally, sent_out}
use Rattle.ledger.specs.Cover.{ceil}
use Rattle.ledger.specs.Sound.{HeldBits, SentBits, Sound, Fits}
use Rattle.ledger.proofs.Queue.{goes-flies}
use Rattle.ledger.proofs.Agree.{Agree}
use Rattle.ledger.proofs.Cover.{ascend-split, ascend-merge, by_offset-split, by_offset-merge, split-fits, chunks-few, ascend-chunks, ascend-append, ascend-longer, chunks-le, by_offset-append, by_offset-chunks}
use Rattle.ledger.proofs.Furthest.{furthest-new}
use Rattle.ledger.proofs.HeldPieces.{find-merge, occurs-merge, pieces-few, length-held_offs, sent_offs-append, sent_offs-increments, sent_offs-wholes, held_offs-append, held-and-unheld, length-sent_offs}
use Rattle.ledger.proofs.InFlight.{size-by_offset, flown-length}
use Rattle.ledger.proofs.Offsets.{Within, flying-within, offs-append, length-offs, within-flying, find-some}
use Rattle.ledger.proofs.ShortFrames.{size_few, short_frames-few, short_frames-split, short_frames-merge}
use Rattle.limits.specs.Limits.{max_top, max_bits, max_slots, max_flying, longest_payload, min_payload, max_pieces}
use Rattle.ledger.specs.Sizes.{Sizes}
use Rattle.ledger.specs.CoverCode.{flying_byte, Ascend, short_frames, flying_by_offset}
use Rattle.ledger.specs.LedgerCode.{frames, taken_of}
use Rattle.ledger.specs.SizesCode.{SizeRange}

size-append : (ps qs : List Piece) → size (ps ++ qs) ≡ size ps + size qs
size-append [] qs = omega arith
size-append (p ∷ ps) qs = let h = size-append ps qs in omega arith

find-append : (o : ℕ) (ps qs : List Piece) → 1 ≤ length (find o ps) → find o (ps ++ qs) ≡ find o ps
find-append o [] qs h = absurd (omega arith)
find-append o (p ∷ ps) qs h =
    test (eqb o p.off)
    (λ e. rw e)
    (λ e. rw e (find-append o ps qs (rw e at h)))

flying-unacked : (bs : List ℕ) → map flying_byte (unacked bs) ≡ map some bs
flying-unacked bs = map-map flying_byte _ bs

increments-bits : (g : Plan) (top : ℕ) (ps : List Held) → top ≤ max_top → ((h : ℕ) → (1 ≤ g.increment h) × (g.increment h ≤ max_bits)) → HeldBits top ps → SentBits (increments g ps)
increments-bits g top [] ht f b = tt
increments-bits g top (p ∷ ps) ht f b =
    let i = f p.bits in
    (i.0, i.1, omega arith, omega arith, increments-bits g top ps ht f b.2)

wholes-bits : (g : Plan) (os : List ℕ) → 1 ≤ g.slot → g.slot ≤ max_bits → SentBits (wholes g os)
wholes-bits g [] h h' = tt
wholes-bits g (o ∷ os) h h' = (h, h', omega arith, omega arith, wholes-bits g os h h')

sent_bits-append : (xs ys : List Sent) → SentBits xs → SentBits ys → SentBits (xs ++ ys)
sent_bits-append [] ys a b = b
sent_bits-append (x ∷ xs) ys a b = (a.0, a.1, a.2, a.3, sent_bits-append xs ys a.4 b)

held_bits-take : (top k : ℕ) (ps : List Held) → HeldBits top ps → HeldBits top (take k ps)
held_bits-take top zero ps b = tt
held_bits-take top (suc k) [] b = tt
held_bits-take top (suc k) (p ∷ ps) b = (b.0, b.1, held_bits-take top k ps b.2)

pub no_pieces : (ps : List Piece) → length ps ≤ 0 → ps ≡ []
no_pieces [] h = refl
no_pieces (p ∷ ps) h = absurd (omega arith)

-- why the limits hold: so many pieces fly when new bytes are taken
module _ (z : Sizes) (zr : SizeRange z) (n : ℕ) (ps : List Piece) (a : Ascend z.long 0 n ps) (h : length ps ≤ max_slots) where
  few_bytes : size ps ≤ max_flying
  few_bytes = omega (arith, size_few z.long 0 n ps a, mul-le-mul zr.most h)

  -- short frames for the longest piece
  abbrev cuts : ℕ
  cuts = ceil longest_payload min_payload

  few-shorts : short_frames z.short ps ≤ max_pieces
  few-shorts =
      omega (arith, short_frames-few z.short (omega (arith, zr.least)) cuts z.long 0 n ps (omega (arith, zr.most, zr.least)) a)

taken-few : (n : ℕ) (os : List ℕ) → length (take n os) ≤ n
taken-few n os = omega (arith, length-take n os)

module _ (z : Sizes) (zr : SizeRange z) (s : Sender) (g : Plan) (so : Sound z s) (fi : Fits z s g) where
  held_in : Within (held_offs s.held) s.pieces
  held_in = flying-within (held_offs s.held) s.pieces so.held_flying

  payload-least : min_payload ≤ g.payload
  payload-least = ⊎_elim (λ e. omega (arith, zr.least)) (λ e. omega (arith, zr.least, zr.order)) fi.payload

  payload-le : g.payload ≤ z.long
  payload-le = ⊎_elim (λ e. omega (arith, zr.order)) (λ e. omega arith) fi.payload

  pub payload-most : g.payload ≤ longest_payload
  payload-most = omega (arith, payload-le, zr.most)

  recut-ascend : Ascend g.payload 0 s.next (recut g s)
  recut-ascend =
      let a = ascend-split g.payload z.long 0 s.next s.pieces (omega (arith, payload-least)) so.ascend in
      by (λ (r : List Piece). Ascend g.payload 0 s.next r) g.merging (λ e. ascend-merge _ g.payload 0 s.next (split g.payload s.pieces) a) (λ e. a)

  recut-by_offset : flying_by_offset 0 s.next (recut g s) ≡ flying_by_offset 0 s.next s.pieces
  recut-by_offset =
      let a = by_offset-split g.payload 0 s.next s.pieces in
      by (λ (r : List Piece). flying_by_offset 0 s.next r ≡ flying_by_offset 0 s.next s.pieces) g.merging
      (λ e. by_offset-merge _ g.payload 0 s.next (split g.payload s.pieces) ∙ a) (λ e. a)

  recut-short_frames : short_frames z.short (recut g s) ≤ short_frames z.short s.pieces
  recut-short_frames =
      let w : short_frames z.short (split g.payload s.pieces) ≤ short_frames z.short s.pieces =
      ⊎_elim (λ e. rw e (short_frames-split z.short (omega (arith, zr.least)) s.pieces))
      (λ e. rw (split-fits g.payload 0 s.next s.pieces (rw e so.ascend)) (omega arith)) fi.payload in
      by (λ (r : List Piece). short_frames z.short r ≤ short_frames z.short s.pieces) g.merging
      (λ e. le_trans (short_frames-merge z.short (omega (arith, zr.least)) _ g.payload (split g.payload s.pieces)) w)
      (λ e. w)

  -- with a held list the level has long frames, and nothing is cut
  nothing-cut : 1 ≤ g.parity → split g.payload s.pieces ≡ s.pieces
  nothing-cut h = split-fits g.payload 0 s.next s.pieces (rw (fi.parity h) so.ascend)

  kept-le : (o : ℕ) → occurs o (held_offs (kept_at_peer g s)) ≤ occurs o (held_offs s.held)
  kept-le o = by (λ (r : List Held). occurs o (held_offs r) ≤ occurs o (held_offs s.held)) (eqb g.parity 0) (λ e. omega arith) (λ e. omega arith)

  kept-parity : (o : ℕ) → 1 ≤ occurs o (held_offs (kept_at_peer g s)) → 1 ≤ g.parity
  kept-parity o h =
      test (eqb g.parity 0)
      (λ e. absurd (let h' : 1 ≤ occurs o (held_offs (cond true [] s.held)) = rw e at h in omega arith))
      (λ e. omega (arith, eqb-false g.parity 0 e))

  -- held pieces stay
  find-kept : (o : ℕ) → 1 ≤ occurs o (held_offs (kept_at_peer g s)) → find o (recut g s) ≡ find o s.pieces
  find-kept o h =
      let u = nothing-cut (kept-parity o h) in
      by (λ (r : List Piece). find o r ≡ find o s.pieces) g.merging
      (λ f. find-merge (held_offs (kept_at_peer g s)) g.payload o (split g.payload s.pieces) h ∙ rw u)
      (λ f. rw u)

  occurs-kept : (o : ℕ) → occurs o (held_offs (kept_at_peer g s)) ≤ occurs o (offs (recut g s))
  occurs-kept o =
      test (ltb 0 (occurs o (held_offs (kept_at_peer g s))))
      (λ e.
      let h = ltb-true 0 (occurs o (held_offs (kept_at_peer g s))) e in
      let u = nothing-cut (kept-parity o h) in
      let k : occurs o (held_offs (kept_at_peer g s)) ≤ occurs o (offs (split g.payload s.pieces)) = rw u (omega (arith, kept-le o, held_in o)) in
      by (λ (r : List Piece). occurs o (held_offs (kept_at_peer g s)) ≤ occurs o (offs r)) g.merging
      (λ f. rw (occurs-merge (held_offs (kept_at_peer g s)) g.payload o (split g.payload s.pieces) h) k)
      (λ f. k))
      (λ e. omega (arith, ltb-false 0 (occurs o (held_offs (kept_at_peer g s))) e))

  old-few : length (old_offs g s) ≤ g.room
  old-few = taken-few g.room _

  new-few : length (new_pieces g s) ≤ g.room - length (old_offs g s)
  new-few = chunks-few (g.room - length (old_offs g s)) g.payload s.next s.waiting

  new-ascend : Ascend g.payload s.next (s.next + size (new_pieces g s)) (new_pieces g s)
  new-ascend = ascend-chunks (g.room - length (old_offs g s)) g.payload s.next s.waiting (omega (arith, payload-least))

  all-ascend : Ascend g.payload 0 (s.next + size (new_pieces g s)) (recut g s ++ new_pieces g s)
  all-ascend = ascend-append g.payload 0 s.next (s.next + size (new_pieces g s)) (recut g s) (new_pieces g s) recut-ascend new-ascend

  all-long : Ascend z.long 0 (s.next + size (new_pieces g s)) (recut g s ++ new_pieces g s)
  all-long = ascend-longer g.payload z.long 0 (s.next + size (new_pieces g s)) (recut g s ++ new_pieces g s) payload-le all-ascend

  -- where new bytes are taken, all unheld pieces go with them: at most 64 pieces fly
  all-few : 1 ≤ length (new_pieces g s) → length (recut g s ++ new_pieces g s) ≤ max_slots
  all-few h =
      omega (
        arith,
        old-few,
        new-few,
        fi.room,
        length-take g.room (unheld (held_offs (kept_at_peer g s)) (recut g s)),
        pieces-few g.payload 0 s.next (held_offs (kept_at_peer g s)) (recut g s) recut-ascend,
        length-held_offs (kept_at_peer g s),
        length-append (recut g s) (new_pieces g s),
      )

  pub recut-size : size (recut g s) ≡ size s.pieces
  recut-size = size-by_offset 0 s.next (recut g s) s.pieces recut-by_offset

  -- where none are, the pieces are those of before, cut anew
  none-new : length (new_pieces g s) ≤ 0 → recut g s ++ new_pieces g s ≡ recut g s
  none-new h = rw (no_pieces (new_pieces g s) h) (append-nil (recut g s))

  bytes : size (recut g s ++ new_pieces g s) ≤ max_flying
  bytes =
      test (ltb 0 (length (new_pieces g s)))
      (λ e. few_bytes z zr (s.next + size (new_pieces g s)) (recut g s ++ new_pieces g s) all-long (all-few (ltb-true 0 (length (new_pieces g s)) e)))
      (λ e. rw (none-new (ltb-false 0 (length (new_pieces g s)) e), recut-size) so.bytes)

  shorts : short_frames z.short (recut g s ++ new_pieces g s) ≤ max_pieces
  shorts =
      test (ltb 0 (length (new_pieces g s)))
      (λ e. few-shorts z zr (s.next + size (new_pieces g s)) (recut g s ++ new_pieces g s) all-long (all-few (ltb-true 0 (length (new_pieces g s)) e)))
      (λ e. rw (none-new (ltb-false 0 (length (new_pieces g s)) e)) (omega (arith, recut-short_frames, so.shorts)))

  slots-offs : sent_offs (slots g s) ≡ held_offs (take g.parity (kept_at_peer g s)) ++ (old_offs g s ++ offs (new_pieces g s))
  slots-offs = rw (sent_offs-append (increments g (take g.parity (kept_at_peer g s))) (wholes g (old_offs g s ++ offs (new_pieces g s))), sent_offs-increments g (take g.parity (kept_at_peer g s)), sent_offs-wholes g (old_offs g s ++ offs (new_pieces g s)))

  kept-parts : (o : ℕ) → occurs o (held_offs (take g.parity (kept_at_peer g s))) + occurs o (held_offs (drop g.parity (kept_at_peer g s))) ≡ occurs o (held_offs (kept_at_peer g s))
  kept-parts o =
      sym (occurs-append o (held_offs (take g.parity (kept_at_peer g s))) (held_offs (drop g.parity (kept_at_peer g s))))
      ∙ rw (← held_offs-append (take g.parity (kept_at_peer g s)) (drop g.parity (kept_at_peer g s)), take-append-drop g.parity (kept_at_peer g s))

  out-in : (o : ℕ) → occurs o (sent_offs (slots g s)) + occurs o (held_offs (drop g.parity (kept_at_peer g s))) ≤ occurs o (offs (recut g s ++ new_pieces g s))
  out-in o =
      rw (slots-offs, offs-append (recut g s) (new_pieces g s), occurs-append o (held_offs (take g.parity (kept_at_peer g s))) (old_offs g s ++ offs (new_pieces g s)), occurs-append o (old_offs g s) (offs (new_pieces g s)), occurs-append o (offs (recut g s)) (offs (new_pieces g s)))
      (omega (arith, kept-parts o, held-and-unheld (held_offs (kept_at_peer g s)) o (recut g s) (occurs-kept o), occurs-take o g.room (unheld (held_offs (kept_at_peer g s)) (recut g s))))

  kept-few : length (kept_at_peer g s) ≤ length s.held
  kept-few = by (λ (r : List Held). length r ≤ length s.held) (eqb g.parity 0) (λ e. omega arith) (λ e. omega arith)

  kept-bits : HeldBits z.top (kept_at_peer g s)
  kept-bits = by (λ (r : List Held). HeldBits z.top r) (eqb g.parity 0) (λ e. tt) (λ e. so.held_bits)

  out-few : length (slots g s) + length (drop g.parity (kept_at_peer g s)) ≤ max_slots
  out-few =
      rw (← length-sent_offs (slots g s), slots-offs, length-append (held_offs (take g.parity (kept_at_peer g s))) (old_offs g s ++ offs (new_pieces g s)), length-held_offs (take g.parity (kept_at_peer g s)), length-append (old_offs g s) (offs (new_pieces g s)), length-offs (new_pieces g s))
      (omega (arith, old-few, new-few, fi.room, length-append (take g.parity (kept_at_peer g s)) (drop g.parity (kept_at_peer g s)), ap length (take-append-drop g.parity (kept_at_peer g s))))

  new-le : size (new_pieces g s) ≤ length s.waiting
  new-le = chunks-le (g.room - length (old_offs g s)) g.payload s.next s.waiting

  all_in : Within (held_offs (kept_at_peer g s)) (recut g s ++ new_pieces g s)
  all_in o = rw (offs-append (recut g s) (new_pieces g s), occurs-append o (offs (recut g s)) (offs (new_pieces g s))) (omega (arith, occurs-kept o))

  out_within : Within (sent_offs (slots g s) ++ held_offs (drop g.parity (kept_at_peer g s))) (recut g s ++ new_pieces g s)
  out_within o = rw (occurs-append o (sent_offs (slots g s)) (held_offs (drop g.parity (kept_at_peer g s)))) (out-in o)

  -- a burst takes no byte in
  pub burst-taken : taken_of (data_burst g s) ≡ taken_of s
  unfolding data_burst
  burst-taken = omega (arith, length-drop (size (new_pieces g s)) s.waiting, new-le)

  pub burst-sound : Sound z (data_burst g s)
  unfolding data_burst
  burst-sound =
      record {
        ascend = all-long;
        bytes = bytes;
        shorts = shorts;
        held_few = omega (arith, kept-few, so.held_few);
        held_flying = within-flying z.long 0 (s.next + size (new_pieces g s)) (held_offs (kept_at_peer g s)) (recut g s ++ new_pieces g s) all-long all_in;
        held_bits = kept-bits;
        tail = (take g.parity (kept_at_peer g s), sym (take-append-drop g.parity (kept_at_peer g s)));
        out_few = out-few;
        out_flying =
            within-flying z.long 0 (s.next + size (new_pieces g s)) (sent_offs (slots g s) ++ held_offs (drop g.parity (kept_at_peer g s))) (recut g s ++ new_pieces g s)
            all-long out_within;
        sent_bits =
            sent_bits-append (increments g (take g.parity (kept_at_peer g s))) (wholes g (old_offs g s ++ offs (new_pieces g s)))
            (increments-bits g z.top (take g.parity (kept_at_peer g s)) zr.bits fi.increment (held_bits-take z.top g.parity (kept_at_peer g s) kept-bits))
            (wholes-bits g (old_offs g s ++ offs (new_pieces g s)) fi.slot.0 fi.slot.1);
        few_waiting = omega (arith, length-drop (size (new_pieces g s)) s.waiting, so.few_waiting);
        taken_few = omega (arith, burst-taken, so.taken_few);
        sum = omega (arith, size-append (recut g s) (new_pieces g s), recut-size, so.sum);
        number = fi.number;
      }

  -- the tally takes as many waiting bytes as the burst
  furthest-burst : furthest (frames (recut g s ++ new_pieces g s) (slots g s)) - s.next ≡ size (new_pieces g s)
  furthest-burst =
      furthest-new g g.payload s.next (g.room - length (old_offs g s)) s.waiting (recut g s) (increments g (take g.parity (kept_at_peer g s))) (old_offs g s) all-ascend
      (λ o h. omega (arith, out-in o))

  all-by_offset : flying_by_offset 0 (s.next + size (new_pieces g s)) (recut g s ++ new_pieces g s) ≡ flying_by_offset 0 s.next s.pieces ++ map some (take (size (new_pieces g s)) s.waiting)
  all-by_offset =
      by_offset-append g.payload 0 s.next (s.next + size (new_pieces g s)) (recut g s) (new_pieces g s) recut-ascend new-ascend
      ∙ rw (recut-by_offset, by_offset-chunks (g.room - length (old_offs g s)) g.payload s.next s.waiting)

  pub burst-agree : (t : Tally) → Agree s t → Agree (data_burst g s) (sent_out g.number (frames (recut g s ++ new_pieces g s) (slots g s)) t)
  unfolding data_burst sent_out
  burst-agree t ti =
      let l = flown-length z.long s.next s.pieces t.flown so.ascend ti.flown in
      record {
        waiting = goes-flies (furthest (frames (recut g s ++ new_pieces g s) (slots g s)) - length t.flown) t.queue ∙ rw (l, furthest-burst, ti.waiting);
        flown = rw (l, furthest-burst, ti.waiting, all-by_offset, map-append flying_byte t.flown (unacked (take (size (new_pieces g s)) s.waiting)), ti.flown, flying-unacked (take (size (new_pieces g s)) s.waiting));
        out = refl;
      }

  -- as many bytes fly for the tally as for the sender
  pub burst-takes : (t : Tally) → Agree s t → furthest (frames (recut g s ++ new_pieces g s) (slots g s)) - length t.flown ≡ size (new_pieces g s)
  burst-takes t ti = rw (flown-length z.long s.next s.pieces t.flown so.ascend ti.flown) furthest-burst

  -- each piece fits a frame of the burst
  pub burst-ascend : Ascend g.payload 0 (data_burst g s).next (data_burst g s).pieces
  unfolding data_burst
  burst-ascend = all-ascend

  pub burst-keeps : (o : ℕ) → 1 ≤ occurs o (held_offs (data_burst g s).held) → find o (data_burst g s).pieces ≡ find o s.pieces
  unfolding data_burst
  burst-keeps o h =
      let f = find-some z.long 0 s.next o s.pieces so.ascend (omega (arith, kept-le o, held_in o)) in
      find-append o (recut g s) (new_pieces g s) (rw (find-kept o h) f) ∙ find-kept o h
