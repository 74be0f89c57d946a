-- Lists side by side: their offsets, lengths, parts and joints.
-- Assumes nothing.
use mathlib.Core.Path.{◌≡◌, refl, ap}
use mathlib.Core.List.{List, [], ◌∷◌, ◌++◌, map}
use Prim.Native.Nat.{ℕ, zero, suc}
use native.Mathlib.Nat.{suc_inj}
use native.Mathlib.Omega.{arith}
use lib.ListN.{length, take, drop, length-map}
use Rattle.laws.proofs.Lists.{map-append, map-take, map-map}
use Rattle.ledger.specs.Ledger.{Held, Sent, held_offs, sent_offs}
use Rattle.frames.specs.declared.slots.Slot.{Slot}
use Rattle.pieces.specs.Lists.{held_of, sent_of}
use Rattle.pieces.specs.ListsCode.{sent_slots}

-- ---- offsets and held bits

pub held-offs : (os bs : List ℕ) → length os ≡ length bs → held_offs (held_of os bs) ≡ os
held-offs [] bs h = refl
held-offs (o ∷ os) [] h = absurd (omega arith)
held-offs (o ∷ os) (b ∷ bs) h = ap (λ (l : List ℕ). o ∷ l) (held-offs os bs (suc_inj h))

pub held-length : (os bs : List ℕ) → length os ≡ length bs → length (held_of os bs) ≡ length os
held-length [] bs h = refl
held-length (o ∷ os) [] h = absurd (omega arith)
held-length (o ∷ os) (b ∷ bs) h = ap suc (held-length os bs (suc_inj h))

pub held-take : (n : ℕ) (os bs : List ℕ) → held_of (take n os) (take n bs) ≡ take n (held_of os bs)
held-take zero os bs = refl
held-take (suc n) [] bs = refl
held-take (suc n) (o ∷ os) [] = refl
held-take (suc n) (o ∷ os) (b ∷ bs) = rw (held-take n os bs)

held_none : (os : List ℕ) → held_of os [] ≡ []
held_none [] = refl
held_none (o ∷ os) = refl

pub held-drop : (n : ℕ) (os bs : List ℕ) → held_of (drop n os) (drop n bs) ≡ drop n (held_of os bs)
held-drop zero os bs = refl
held-drop (suc n) [] bs = refl
held-drop (suc n) (o ∷ os) [] = held_none (drop n os)
held-drop (suc n) (o ∷ os) (b ∷ bs) = held-drop n os bs

pub held-append : (os bs ps cs : List ℕ) → length os ≡ length bs → held_of (os ++ ps) (bs ++ cs) ≡ held_of os bs ++ held_of ps cs
held-append [] [] ps cs h = refl
held-append [] (b ∷ bs) ps cs h = absurd (omega arith)
held-append (o ∷ os) [] ps cs h = absurd (omega arith)
held-append (o ∷ os) (b ∷ bs) ps cs h = rw (held-append os bs ps cs (suc_inj h))

-- a held list is its offsets and its bits
pub held-map : (hs : List Held) → held_of (held_offs hs) (map (λ (h : Held). h.bits) hs) ≡ hs
held-map [] = refl
held-map (h ∷ hs) = rw (held-map hs)

-- ---- offsets, bits and held bits

pub sent-offs : (os bs hs : List ℕ) → length os ≡ length bs → length os ≡ length hs → sent_offs (sent_of os bs hs) ≡ os
sent-offs [] bs hs h k = refl
sent-offs (o ∷ os) [] hs h k = absurd (omega arith)
sent-offs (o ∷ os) (b ∷ bs) [] h k = absurd (omega arith)
sent-offs (o ∷ os) (b ∷ bs) (x ∷ hs) h k = ap (λ (l : List ℕ). o ∷ l) (sent-offs os bs hs (suc_inj h) (suc_inj k))

pub sent-length : (os bs hs : List ℕ) → length os ≡ length bs → length os ≡ length hs → length (sent_of os bs hs) ≡ length os
sent-length [] bs hs h k = refl
sent-length (o ∷ os) [] hs h k = absurd (omega arith)
sent-length (o ∷ os) (b ∷ bs) [] h k = absurd (omega arith)
sent-length (o ∷ os) (b ∷ bs) (x ∷ hs) h k = ap suc (sent-length os bs hs (suc_inj h) (suc_inj k))

pub sent-take : (n : ℕ) (os bs hs : List ℕ) → sent_of (take n os) (take n bs) (take n hs) ≡ take n (sent_of os bs hs)
sent-take zero os bs hs = refl
sent-take (suc n) [] bs hs = refl
sent-take (suc n) (o ∷ os) [] hs = refl
sent-take (suc n) (o ∷ os) (b ∷ bs) [] = refl
sent-take (suc n) (o ∷ os) (b ∷ bs) (h ∷ hs) = rw (sent-take n os bs hs)

sent-no-bits : (os hs : List ℕ) → sent_of os [] hs ≡ []
sent-no-bits [] hs = refl
sent-no-bits (o ∷ os) hs = refl

sent-no-held : (os bs : List ℕ) → sent_of os bs [] ≡ []
sent-no-held [] bs = refl
sent-no-held (o ∷ os) [] = refl
sent-no-held (o ∷ os) (b ∷ bs) = refl

pub sent-drop : (n : ℕ) (os bs hs : List ℕ) → sent_of (drop n os) (drop n bs) (drop n hs) ≡ drop n (sent_of os bs hs)
sent-drop zero os bs hs = refl
sent-drop (suc n) [] bs hs = refl
sent-drop (suc n) (o ∷ os) [] hs = sent-no-bits (drop n os) (drop (suc n) hs)
sent-drop (suc n) (o ∷ os) (b ∷ bs) [] = sent-no-held (drop n os) (drop n bs)
sent-drop (suc n) (o ∷ os) (b ∷ bs) (h ∷ hs) = sent-drop n os bs hs

pub sent-append : (os bs hs ps cs ks : List ℕ) → length os ≡ length bs → length os ≡ length hs → sent_of (os ++ ps) (bs ++ cs) (hs ++ ks) ≡ sent_of os bs hs ++ sent_of ps cs ks
sent-append [] [] [] ps cs ks e f = refl
sent-append [] [] (h ∷ hs) ps cs ks e f = absurd (omega arith)
sent-append [] (b ∷ bs) hs ps cs ks e f = absurd (omega arith)
sent-append (o ∷ os) [] hs ps cs ks e f = absurd (omega arith)
sent-append (o ∷ os) (b ∷ bs) [] ps cs ks e f = absurd (omega arith)
sent-append (o ∷ os) (b ∷ bs) (h ∷ hs) ps cs ks e f = rw (sent-append os bs hs ps cs ks (suc_inj e) (suc_inj f))

-- ---- slots

pub sent_slots-is : (xs : List Slot) → sent_of (map (λ (x : Slot). x.off) xs) (map (λ (x : Slot). x.bits) xs) (map (λ (x : Slot). x.held) xs) ≡ sent_slots xs
sent_slots-is [] = refl
sent_slots-is (x ∷ xs) = rw (sent_slots-is xs)

pub sent_slots-offs : (xs : List Slot) → sent_offs (sent_slots xs) ≡ map (λ (x : Slot). x.off) xs
sent_slots-offs xs = map-map (λ (f : Sent). f.off) (λ (x : Slot). record { off = x.off; bits = x.bits; held = x.held }) xs

pub sent_slots-length : (xs : List Slot) → length (sent_slots xs) ≡ length xs
sent_slots-length xs = length-map xs (λ (x : Slot). record { off = x.off; bits = x.bits; held = x.held })

pub sent_slots-append : (xs ys : List Slot) → sent_slots (xs ++ ys) ≡ sent_slots xs ++ sent_slots ys
sent_slots-append xs ys = map-append (λ (x : Slot). record { off = x.off; bits = x.bits; held = x.held }) xs ys

pub sent_slots-take : (n : ℕ) (xs : List Slot) → sent_slots (take n xs) ≡ take n (sent_slots xs)
sent_slots-take n xs = map-take (λ (x : Slot). record { off = x.off; bits = x.bits; held = x.held }) n xs
