-- Laws of numbers as bytes: stores and loads of a u32, and bytes that spell a number back.
-- Assumes nothing.
use mathlib.Core.Path.{◌≡◌, refl, sym, ap, ◌∙◌}
use mathlib.Core.List.{List, [], ◌∷◌, ◌++◌}
use Prim.Native.Nat.{ℕ, zero, suc, ◌+◌, ◌*◌, ◌/◌, ◌%◌, ◌^◌, ◌≤◌, ◌<◌}
use native.Mathlib.Nat.{add_assoc}
use native.Mathlib.Omega.{arith}
use lib.Dec.{lit<}
use lib.ListN.{length, get_or, set, take, drop, length-take}
use lib.Seq.{get_or-drop}
use Rattle.laws.specs.Bytes.{overwrite, part, Bytes}
use Rattle.laws.specs.Little.{num, le, load}
use Rattle.laws.proofs.Bytes.{part-cons, part-add, set-over, over-snoc, part-before, part-after, length_part}

pub part4 : (l : List ℕ) (at : ℕ) → at + 4 ≤ length l → part l at 4 ≡ get_or l at 0 ∷ get_or l (at + 1) 0 ∷ get_or l (at + 2) 0 ∷ get_or l (at + 3) 0 ∷ []
part4 l at h =
    part-cons l at 3 (omega arith)
    ∙ ap (λ (r : List ℕ). get_or l at 0 ∷ r) (part-cons l (at + 1) 2 (omega arith)
    ∙ ap (λ (r : List ℕ). get_or l (at + 1) 0 ∷ r) (ap (λ (k : ℕ). part l k 2) (add_assoc at 1 1) ∙ part-cons l (at + 2) 1 (omega arith)
    ∙ ap (λ (r : List ℕ). get_or l (at + 2) 0 ∷ r) (ap (λ (k : ℕ). part l k 1) (add_assoc at 2 1) ∙ part-cons l (at + 3) 0 (omega arith))))

pub load4 : (l : List ℕ) (at : ℕ) → at + 4 ≤ length l → load l at ≡ get_or l at 0 + 256 * (get_or l (at + 1) 0 + 256 * (get_or l (at + 2) 0 + 256 * get_or l (at + 3) 0))
unfolding load num
load4 l at h = ap num (part4 l at h) ∙ omega arith

-- four stores of single bytes are one run
pub store4 : (l : List ℕ) (at a b c d : ℕ) → set (set (set (set l at a) (at + 1) b) (at + 2) c) (at + 3) d ≡ overwrite l at (a ∷ b ∷ c ∷ d ∷ [])
store4 l at a b c d =
    simp (set-over l at a) (ap (λ (x : List ℕ). set (set x (at + 2) c) (at + 3) d) (over-snoc l at (a ∷ []) b 1 refl)
    ∙ ap (λ (x : List ℕ). set x (at + 3) d) (over-snoc l at (a ∷ b ∷ []) c 2 refl) ∙ over-snoc l at (a ∷ b ∷ c ∷ []) d 3 refl)

-- a u32 is spelled back
pub num-le4 : (v : ℕ) → v < 2 ^ 32 → num (le 4 v) ≡ v
unfolding num
num-le4 v h = omega arith

-- loads apart from a run of stores
module _ (a : List ℕ) (at : ℕ) (bs : List ℕ) where
  pub load-before : (p : ℕ) → p + 4 ≤ at → load (overwrite a at bs) p ≡ load a p
  unfolding load
  load-before p h = ap num (part-before a at bs p 4 h)

  pub load_after : (p : ℕ) → at + length bs ≤ p → load (overwrite a at bs) p ≡ load a p
  unfolding load
  load_after p h = ap num (part-after a at bs p 4 h)

-- ---- bytes

low : (b x : ℕ) → b < 256 → (b + 256 * x) % 256 ≡ b
low b x h = omega arith

high : (b x : ℕ) → b < 256 → (b + 256 * x) / 256 ≡ x
high b x h = omega arith

-- bytes are those of the number that they spell
pub le-num : (bs : List ℕ) → Bytes bs → le (length bs) (num bs) ≡ bs
unfolding num
le-num [] h = refl
le-num (b ∷ bs) h = λ j. low b (num bs) (h 0) j ∷ (ap (le (length bs)) (high b (num bs) (h 0)) ∙ le-num bs (λ i. h (suc i))) j

pub bytes_drop : (k : ℕ) (l : List ℕ) → Bytes l → Bytes (drop k l)
bytes_drop k l h i = rw get_or-drop (h (k + i))

pub bytes_take : (k : ℕ) (l : List ℕ) → Bytes l → Bytes (take k l)
bytes_take zero l h i = lit< tt
bytes_take (suc k) [] h i = lit< tt
bytes_take (suc k) (x ∷ l) h zero = h zero
bytes_take (suc k) (x ∷ l) h (suc i) = bytes_take k l (λ j. h (suc j)) i

pub bytes-part : (l : List ℕ) → Bytes l → (at n : ℕ) → Bytes (part l at n)
bytes-part l h at n = bytes_take n (drop at l) (bytes_drop at l h)

-- the bytes of a u32 that was read are those that are there
pub le-load : (a : List ℕ) → Bytes a → (at : ℕ) → at + 4 ≤ length a → le 4 (load a at) ≡ part a at 4
unfolding load
le-load a b at h =
    ap (λ (k : ℕ). le k (num (part a at 4))) (sym (length_part a at 4 h)) ∙ le-num (part a at 4) (bytes-part a b at 4)

num-small : (bs : List ℕ) → Bytes bs → length bs ≤ 4 → num bs < 4294967296
unfolding num
num-small [] b h = lit< tt
num-small (w ∷ []) b h = omega (arith, b 0)
num-small (w ∷ x ∷ []) b h = omega (arith, b 0, b 1)
num-small (w ∷ x ∷ y ∷ []) b h = omega (arith, b 0, b 1, b 2)
num-small (w ∷ x ∷ y ∷ z ∷ []) b h = omega (arith, b 0, b 1, b 2, b 3)
num-small (w ∷ x ∷ y ∷ z ∷ v ∷ bs) b h = absurd (omega arith)

pub load-small : (a : List ℕ) → Bytes a → (at : ℕ) → load a at < 2 ^ 32
unfolding load
load-small a b at = num-small (part a at 4) (bytes-part a b at 4) (omega (arith, length-take 4 (drop at a)))

-- ---- a u64

-- four bytes and then more
pub num-after4 : (a b c d : ℕ) (bs : List ℕ) → num (a ∷ b ∷ c ∷ d ∷ bs) ≡ num (a ∷ b ∷ c ∷ d ∷ []) + 4294967296 * num bs
unfolding num
num-after4 a b c d bs = omega arith

pub load8 : (l : List ℕ) (at : ℕ) → at + 8 ≤ length l → num (part l at 8) ≡ load l at + 4294967296 * load l (at + 4)
unfolding load
load8 l at h =
    ap num (part-add l at 4 4 ∙ ap (λ (r : List ℕ). r ++ part l (at + 4) 4) (part4 l at (omega arith)))
    ∙ num-after4 (get_or l at 0) (get_or l (at + 1) 0) (get_or l (at + 2) 0) (get_or l (at + 3) 0) (part l (at + 4) 4)
    ∙ ap (λ (r : List ℕ). num r + 4294967296 * num (part l (at + 4) 4)) (sym (part4 l at (omega arith)))
