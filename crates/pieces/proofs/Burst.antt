-- The slots of a burst are the ledger's.
-- Assumes nothing.
use mathlib.Core.Path.{◌≡◌, refl, sym, ap, ap₂, ◌∙◌}
use mathlib.Core.List.{List, [], ◌∷◌, ◌++◌}
use Prim.Native.Nat.{ℕ, ◌+◌, ◌-◌}
use lib.ListN.{length, take, drop, length-map}
use Rattle.harq.specs.declared.Harq.{Harq}
use Rattle.harq.specs.Held.{increment_of}
use Rattle.laws.specs.Lists.{listed}
use Rattle.laws.proofs.Lists.{map-append, map-take}
use Rattle.laws.proofs.Picks.{by₂}
use Rattle.area.specs.declared.table.Row.{Row}
use Rattle.frames.specs.Slots.{unheld_slots, chunk_rows, increment_slots}
use Rattle.frames.specs.declared.slots.Slot.{Slot}
use Rattle.ledger.specs.Ledger.{Piece, Plan, Sender, Sent, offs, held_offs, unheld, chunks, whole, wholes, increments, kept_at_peer, recut, old_offs, new_pieces, slots}
use Rattle.pieces.specs.Pieces.{pieces_of}
use Rattle.pieces.specs.Lists.{held_of}
use Rattle.pieces.proofs.Chunks.{chunk-pieces}
use Rattle.pieces.proofs.Lists.{held-offs, held-take, sent_slots-append, sent_slots-length, sent_slots-take}
use Rattle.pieces.specs.BurstCode.{old_slots, new_rows, new_slots, burst_slots}
use Rattle.pieces.specs.ListsCode.{sent_slots}

unheld-all : (ps : List Piece) → unheld [] ps ≡ offs ps
unheld-all [] = refl
unheld-all (p ∷ ps) = ap (λ (l : List ℕ). p.off ∷ l) (unheld-all ps)

module _ (g : Plan) where
  pub increment-slots : (q : Harq) → ((h : ℕ) → g.increment h ≡ increment_of q h g.slot) → (rs : List Row) (os hs : List ℕ)
      → sent_slots (increment_slots q g.slot rs os hs) ≡ increments g (held_of os hs)
  unfolding increment_slots
  increment-slots q e rs [] hs = refl
  increment-slots q e rs (o ∷ os) [] = refl
  increment-slots q e rs (o ∷ os) (h ∷ hs) =
      ap₂ (λ (k : ℕ) (l : List Sent). record { off = o; bits = k; held = h + k } ∷ l) (sym (e h)) (increment-slots q e rs os hs)

  pub whole-slots : (held : List ℕ) (at : ℕ) (rs : List Row) (st : List ℕ) → sent_slots (unheld_slots held g.slot at rs) ≡ wholes g (unheld held (pieces_of rs st))
  unfolding unheld_slots
  whole-slots held at [] st = refl
  whole-slots held at (r ∷ rs) st =
      let i = whole-slots held (at + r.len) rs (drop r.len st) in
      by₂ (λ (xs : List Slot) (os : List ℕ). sent_slots xs ≡ wholes g os) (listed r.off held) (λ t. i) (λ t. ap (λ (l : List Sent). whole g r.off ∷ l) i)

  -- at most `room` of them
  pub old-slots : (room : ℕ) (held : List ℕ) (at : ℕ) (rs : List Row) (st : List ℕ)
      → sent_slots (take room (unheld_slots held g.slot at rs)) ≡ wholes g (take room (unheld held (pieces_of rs st)))
  old-slots room held at rs st =
      sent_slots-take room (unheld_slots held g.slot at rs) ∙ ap (take room) (whole-slots held at rs st) ∙ sym (map-take (whole g) room (unheld held (pieces_of rs st)))

  pub new-slots : (room m next at : ℕ) (w : List ℕ) → sent_slots (unheld_slots [] g.slot at (chunk_rows room m next (length w))) ≡ wholes g (offs (chunks room m next w))
  new-slots room m next at w =
      whole-slots [] at (chunk_rows room m next (length w)) w
      ∙ ap (wholes g) (unheld-all (pieces_of (chunk_rows room m next (length w)) w) ∙ ap offs (chunk-pieces room m next w))

-- ---- the whole burst: the rows hold the re-cut pieces, os and hs are the held list that is kept, and w bytes wait
module _ (g : Plan) (s : Sender) (rs : List Row) (st os hs : List ℕ) (w : ℕ) (pieces : recut g s ≡ pieces_of rs st) (held : kept_at_peer g s ≡ held_of os hs) (sides : length os ≡ length hs)
    (count : length s.waiting ≡ w) where
  pub kept-offs : held_offs (kept_at_peer g s) ≡ os
  kept-offs = ap held_offs held ∙ held-offs os hs sides

  pub burst-old : sent_slots (old_slots g rs os) ≡ wholes g (old_offs g s)
  burst-old = old-slots g g.room os 0 rs st ∙ ap₂ (λ (h : List ℕ) (ps : List Piece). wholes g (take g.room (unheld h ps))) (sym kept-offs) (sym pieces)

  pub burst-old-count : length (old_slots g rs os) ≡ length (old_offs g s)
  burst-old-count = sym (sent_slots-length (old_slots g rs os)) ∙ ap length burst-old ∙ length-map (old_offs g s) (whole g)

  -- the new rows hold the new pieces
  pub burst-new : pieces_of (new_rows g rs os s.next w) s.waiting ≡ new_pieces g s
  burst-new =
      ap (λ (k : ℕ). pieces_of (new_rows g rs os s.next k) s.waiting) (sym count)
      ∙ chunk-pieces (g.room - length (old_slots g rs os)) g.payload s.next s.waiting
      ∙ ap (λ (n : ℕ). chunks (g.room - n) g.payload s.next s.waiting) burst-old-count

  pub burst-fresh : sent_slots (new_slots g rs os s.next w) ≡ wholes g (offs (new_pieces g s))
  burst-fresh =
      ap (λ (k : ℕ). sent_slots (new_slots g rs os s.next k)) (sym count)
      ∙ new-slots g (g.room - length (old_slots g rs os)) g.payload s.next _ s.waiting
      ∙ ap (λ (n : ℕ). wholes g (offs (chunks (g.room - n) g.payload s.next s.waiting))) burst-old-count

  pub burst-slots : (q : Harq) → ((h : ℕ) → g.increment h ≡ increment_of q h g.slot) → sent_slots (burst_slots g rs os q hs s.next w) ≡ slots g s
  burst-slots q e =
      let new = new_slots g rs os s.next w in
      let parity = increment_slots q g.slot rs (take g.parity os) (take g.parity hs) in
      sent_slots-append parity (old_slots g rs os ++ new)
      ∙ ap₂ (λ (x y : List Sent). x ++ y)
      (increment-slots g q e rs (take g.parity os) (take g.parity hs) ∙ ap (increments g) (held-take g.parity os hs ∙ ap (take g.parity) (sym held)))
      (sent_slots-append (old_slots g rs os) new ∙ ap₂ (λ (x y : List Sent). x ++ y) burst-old burst-fresh ∙ sym (map-append (whole g) (old_offs g s) (offs (new_pieces g s))))
