-- Slots that were pushed are read back, each array as a list. How many there are: `push-all-count`; pushed one list after the other: `push-all-append` (slots).
-- Assumes nothing.
use mathlib.Core.Path.{◌≡◌, refl, sym, ap, ap₂, ◌∙◌}
use mathlib.Core.List.{List, [], ◌∷◌, map}
use Prim.Native.Nat.{ℕ, ◌+◌, ◌≤◌, ◌<◌}
use native.Mathlib.Omega.{arith}
use lib.ListN.{length, take, get_or, set, length-map, length-set, length-replicate}
use lib.Seq.{get_or-set_same}
use Rattle.laws.specs.Bytes.{overwrite}
use Rattle.laws.proofs.Bytes.{over-nil, over-cat, set-over, get_d-over-before, part_same}
use Rattle.frames.specs.declared.slots.Slot.{Slot}
use Rattle.frames.specs.declared.slots.Slots.{Slots}
use Rattle.frames.specs.Slots.{slot_pushed, push_all, no_slots, slots_from}
use Rattle.pieces.specs.Lists.{sent_of}
use Rattle.pieces.proofs.Lists.{sent_slots-is}
use Rattle.limits.specs.Limits.{max_slots}
use Rattle.pieces.specs.ListsCode.{sent_slots}

-- ---- the arrays

module _ (f : Slot → ℕ) (l : List ℕ) (n : ℕ) (x : Slot) (xs : List Slot) where
  turn : overwrite (set l n (f x)) (n + 1) (map f xs) ≡ overwrite l n (map f (x ∷ xs))
  turn = ap (λ (r : List ℕ). overwrite r (n + 1) (map f xs)) (set-over l n (f x)) ∙ over-cat l n (f x ∷ []) (map f xs)

pub push-all-off : (s : Slots) (xs : List Slot) → (push_all s xs).off ≡ overwrite s.off s.n (map (λ (x : Slot). x.off) xs)
unfolding push_all slot_pushed
push-all-off s [] = sym (over-nil s.off s.n)
push-all-off s (x ∷ xs) = push-all-off (slot_pushed s x) xs ∙ turn (λ (y : Slot). y.off) s.off s.n x xs

pub push-all-bits : (s : Slots) (xs : List Slot) → (push_all s xs).bits ≡ overwrite s.bits s.n (map (λ (x : Slot). x.bits) xs)
unfolding push_all slot_pushed
push-all-bits s [] = sym (over-nil s.bits s.n)
push-all-bits s (x ∷ xs) = push-all-bits (slot_pushed s x) xs ∙ turn (λ (y : Slot). y.bits) s.bits s.n x xs

pub push-all-held : (s : Slots) (xs : List Slot) → (push_all s xs).held ≡ overwrite s.held s.n (map (λ (x : Slot). x.held) xs)
unfolding push_all slot_pushed
push-all-held s [] = sym (over-nil s.held s.n)
push-all-held s (x ∷ xs) = push-all-held (slot_pushed s x) xs ∙ turn (λ (y : Slot). y.held) s.held s.n x xs

pub push-all-start : (s : Slots) (xs : List Slot) → (push_all s xs).start ≡ overwrite s.start s.n (map (λ (x : Slot). x.start) xs)
unfolding push_all slot_pushed
push-all-start s [] = sym (over-nil s.start s.n)
push-all-start s (x ∷ xs) = push-all-start (slot_pushed s x) xs ∙ turn (λ (y : Slot). y.start) s.start s.n x xs

pub push-all-len : (s : Slots) (xs : List Slot) → (push_all s xs).len ≡ overwrite s.len s.n (map (λ (x : Slot). x.len) xs)
unfolding push_all slot_pushed
push-all-len s [] = sym (over-nil s.len s.n)
push-all-len s (x ∷ xs) = push-all-len (slot_pushed s x) xs ∙ turn (λ (y : Slot). y.len) s.len s.n x xs

-- ---- from no slot on

abbrev none : List ℕ
none = no_slots.off

front : (f : Slot → ℕ) (xs : List Slot) → length xs ≤ max_slots → take (length xs) (overwrite none 0 (map f xs)) ≡ map f xs
front f xs h =
    ap (λ (k : ℕ). take k (overwrite none 0 (map f xs))) (sym (length-map xs f))
    ∙ part_same none 0 (map f xs) (omega (arith, length-map xs f, length-replicate {A = ℕ} max_slots 0))

module _ (xs : List Slot) (h : length xs ≤ max_slots) where
  pub slots-off : take (length xs) (push_all no_slots xs).off ≡ map (λ (x : Slot). x.off) xs
  slots-off = ap (take (length xs)) (push-all-off no_slots xs) ∙ front (λ (x : Slot). x.off) xs h

  pub slots-bits : take (length xs) (push_all no_slots xs).bits ≡ map (λ (x : Slot). x.bits) xs
  slots-bits = ap (take (length xs)) (push-all-bits no_slots xs) ∙ front (λ (x : Slot). x.bits) xs h

  pub slots-held : take (length xs) (push_all no_slots xs).held ≡ map (λ (x : Slot). x.held) xs
  slots-held = ap (take (length xs)) (push-all-held no_slots xs) ∙ front (λ (x : Slot). x.held) xs h

  pub slots_len : take (length xs) (push_all no_slots xs).len ≡ map (λ (x : Slot). x.len) xs
  slots_len = ap (take (length xs)) (push-all-len no_slots xs) ∙ front (λ (x : Slot). x.len) xs h

-- ---- read back as slots

-- arrays of 64
abbrev pub Sized : Slots → Type 0
Sized s =
    (length s.off ≡ max_slots) × (length s.bits ≡ max_slots) × (length s.held ≡ max_slots) × (length s.start ≡ max_slots) × (length s.len ≡ max_slots)

sized-pushed : (s : Slots) (x : Slot) → Sized s → Sized (slot_pushed s x)
unfolding slot_pushed
sized-pushed s x z = (simp length-set z.0, simp length-set z.1, simp length-set z.2, simp length-set z.3, simp length-set z.4)

at-end : (f : Slot → ℕ) (l : List ℕ) (n : ℕ) (x : Slot) (xs : List Slot) → n < length l → get_or (overwrite (set l n (f x)) (n + 1) (map f xs)) n 0 ≡ f x
at-end f l n x xs h = get_d-over-before (set l n (f x)) (n + 1) (map f xs) n 0 (omega arith) ∙ get_or-set_same l n (f x) 0 h

pub slots_read : (s : Slots) (xs : List Slot) → Sized s → s.n + length xs ≤ max_slots → slots_from (push_all s xs) s.n (length xs) ≡ xs
unfolding push_all slot_pushed
slots_read s [] z h = refl
slots_read s (x ∷ xs) z h =
    let q = slot_pushed s x in
    let e = ap (λ (l : List ℕ). get_or l s.n 0) (push-all-off q xs) ∙ at-end (λ (y : Slot). y.off) s.off s.n x xs (omega (arith, z.0)) in
    let b = ap (λ (l : List ℕ). get_or l s.n 0) (push-all-bits q xs) ∙ at-end (λ (y : Slot). y.bits) s.bits s.n x xs (omega (arith, z.1)) in
    let d = ap (λ (l : List ℕ). get_or l s.n 0) (push-all-held q xs) ∙ at-end (λ (y : Slot). y.held) s.held s.n x xs (omega (arith, z.2)) in
    let t = ap (λ (l : List ℕ). get_or l s.n 0) (push-all-start q xs) ∙ at-end (λ (y : Slot). y.start) s.start s.n x xs (omega (arith, z.3)) in
    let m = ap (λ (l : List ℕ). get_or l s.n 0) (push-all-len q xs) ∙ at-end (λ (y : Slot). y.len) s.len s.n x xs (omega (arith, z.4)) in
    ap₂ (λ (y : Slot) (ys : List Slot). y ∷ ys) (λ i. record { off = e i; bits = b i; held = d i; start = t i; len = m i })
    (slots_read q xs (sized-pushed s x z) (omega arith))

pub slots-back : (xs : List Slot) → length xs ≤ max_slots → slots_from (push_all no_slots xs) 0 (length xs) ≡ xs
slots-back xs h = let z = length-replicate {A = ℕ} max_slots 0 in slots_read no_slots xs (z, z, z, z, z) (omega arith)
