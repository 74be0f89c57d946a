-- A burst's slots, read out of the arrays that hold what the ledger sent. Assumes nothing.
use mathlib.Core.Path.{◌≡◌, refl, sym, ap, ap₂, ◌∙◌}
use mathlib.Core.List.{List, [], ◌∷◌, map}
use Prim.Native.Nat.{ℕ, zero, suc, ◌+◌, ◌≤◌}
use native.Mathlib.Omega.{arith}
use lib.ListN.{length, take, get_or, replicate, length-map, length-replicate}
use Rattle.laws.specs.Bytes.{overwrite, part}
use Rattle.laws.proofs.Bytes.{length_over, part-cons, part_same}
use Rattle.ledger.specs.Ledger as L
use Rattle.ledger.specs.Ledger.{Sent, Frame, sent_offs, find}
use Rattle.frames.specs.Slots.{nth_slot, slots_from}
use Rattle.frames.specs.declared.slots.Slot.{Slot}
use Rattle.frames.specs.declared.slots.Slots.{Slots}
use Rattle.pieces.specs.Lists.{sent_of}
use Rattle.pieces.proofs.Lists.{sent_slots-is, sent_slots-offs}
use Rattle.record.specs.View.{store_sent}
use Rattle.record.specs.declared.LastBurst.{LastBurst}
use Rattle.record.proofs.View.{sent-stored}
use Rattle.limits.specs.Limits.{max_slots}
use Rattle.ledger.specs.LedgerCode.{frames}
use Rattle.pieces.specs.ListsCode.{sent_slots}

-- ---- offsets and lengths side by side

abbrev paired : List ℕ → List ℕ → List Frame
paired [] ls = []
paired (o ∷ os) [] = []
paired (o ∷ os) (l ∷ ls) = record { off = o; len = l } ∷ paired os ls

paired-map : {A : Type 0} (f g : A → ℕ) (xs : List A) → paired (map f xs) (map g xs) ≡ map (λ (x : A). record { off = f x; len = g x }) xs
paired-map f g [] = refl
paired-map f g (x ∷ xs) = ap (λ (l : List Frame). record { off = f x; len = g x } ∷ l) (paired-map f g xs)

-- ---- one array, that holds field f of each slot

module _ (x : Slots) (f : Slot → ℕ) (l : List ℕ) (at : (i : ℕ) → f (nth_slot x i) ≡ get_or l i 0) where
  read : (i n : ℕ) → i + n ≤ length l → map f (slots_from x i n) ≡ part l i n
  read i zero h = refl
  read i (suc n) h = ap₂ (λ (v : ℕ) (vs : List ℕ). v ∷ vs) (at i) (read (i + 1) n (omega arith)) ∙ sym (part-cons l i n (omega arith))

-- ---- the slots of what l sent, in the arrays of the burst before

module _ (x : Slots) (l : L.Sender) (b : LastBurst) (few : length l.sent ≤ max_slots)
    (os : length b.off ≡ max_slots) (bs : length b.bits ≡ max_slots) (hs : length b.held ≡ max_slots) (count : x.n ≡ length l.sent)
    (offs : x.off ≡ overwrite b.off 0 (sent_offs l.sent))
    (bits : x.bits ≡ overwrite b.bits 0 (map (λ (f : Sent). f.bits) l.sent))
    (held : x.held ≡ overwrite b.held 0 (map (λ (f : Sent). f.held) l.sent))
    (lens : x.len ≡ overwrite (replicate max_slots 0) 0 (map (λ (f : Sent). length (find f.off l.pieces)) l.sent)) where
  abbrev xs : List Slot
  xs = slots_from x 0 x.n

  -- field f of each slot, in an array of 64
  front : (f : Slot → ℕ) (m : List ℕ) → ((i : ℕ) → f (nth_slot x i) ≡ get_or m i 0) → (c ys : List ℕ) → length c ≡ max_slots → m ≡ overwrite c 0 ys → map f xs ≡ take x.n m
  front f m at c ys k e = read x f m at 0 x.n (omega (arith, ap length e, length_over c 0 ys, few, count))

  pub sent-told : sent_slots xs ≡ l.sent
  unfolding store_sent
  sent-told =
      sym (sent_slots-is xs)
      ∙ (λ i.
      sent_of (front (λ (y : Slot). y.off) x.off (λ j. refl) b.off _ os offs i) (front (λ (y : Slot). y.bits) x.bits (λ j. refl) b.bits _ bs bits i)
      (front (λ (y : Slot). y.held) x.held (λ j. refl) b.held _ hs held i))
      ∙ (λ i. sent_of (take (count i) (offs i)) (take (count i) (bits i)) (take (count i) (held i)))
      ∙ sent-stored l b few os bs hs

  abbrev told : List ℕ
  told = map (λ (f : Sent). length (find f.off l.pieces)) l.sent

  lens-told : map (λ (y : Slot). y.len) xs ≡ told
  lens-told =
      let n : x.n ≡ length told = count ∙ sym (length-map l.sent (λ (f : Sent). length (find f.off l.pieces))) in
      let z = length-replicate {A = ℕ} max_slots 0 in
      front (λ (y : Slot). y.len) x.len (λ j. refl) (replicate max_slots 0) told z lens ∙ ap₂ take n lens
      ∙ part_same (replicate max_slots 0) 0 told (omega (arith, n, z, few, count))

  pub frames-told : frames l.pieces l.sent ≡ map (λ (y : Slot). record { off = y.off; len = y.len }) xs
  frames-told =
      let o : sent_offs l.sent ≡ map (λ (y : Slot). y.off) xs = ap sent_offs (sym sent-told) ∙ sent_slots-offs xs in
      sym (paired-map (λ (f : Sent). f.off) (λ (f : Sent). length (find f.off l.pieces)) l.sent) ∙ (λ i. paired (o i) (sym lens-told i))
      ∙ paired-map (λ (y : Slot). y.off) (λ (y : Slot). y.len) xs
