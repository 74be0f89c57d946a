-- Laws of `overwrite` and `part`.
-- Assumes nothing.
use mathlib.Core.Path.{◌≡◌, refl, sym, ap, ap₂, ◌∙◌}
use mathlib.Core.List.{List, [], ◌∷◌, ◌++◌}
use Prim.Native.Nat.{ℕ, zero, suc, ◌+◌, ◌-◌, ◌≤◌, ◌<◌}
use native.Mathlib.Nat.{add_assoc, le_of_suc-le-suc, not-suc-le-zero, le_refl, add-suc, suc-add, zero-add, add-zero, add-sub_of_le}
use native.Mathlib.Omega.{arith}
use native.Mathlib.Numerals.{add-one}
use lib.ListN.{length, get_or, set, take, drop, replicate, length-take, length-drop, length-replicate, replicate-append-replicate}
use lib.Seq.{take-suc, drop-cons, get_or-drop, take-length, take-add, drop-drop, drop-append-le, take-append-le}
use Rattle.laws.specs.Bytes.{overwrite, part}

-- ---- the length

pub length_over : (l : List ℕ) (at : ℕ) (bs : List ℕ) → length (overwrite l at bs) ≡ length l
unfolding overwrite
length_over [] at bs = refl
length_over (x ∷ l) zero [] = refl
length_over (x ∷ l) zero (b ∷ bs) = ap suc (length_over l zero bs)
length_over (x ∷ l) (suc at) bs = ap suc (length_over l at bs)

-- ---- runs of stores

pub over-nil : (l : List ℕ) (at : ℕ) → overwrite l at [] ≡ l
unfolding overwrite
over-nil [] at = refl
over-nil (x ∷ l) zero = refl
over-nil (x ∷ l) (suc at) = ap (λ (r : List ℕ). x ∷ r) (over-nil l at)

-- a run after a run is one run
pub over-cat : (l : List ℕ) (at : ℕ) (xs bs : List ℕ) → overwrite (overwrite l at xs) (at + length xs) bs ≡ overwrite l at (xs ++ bs)
unfolding overwrite
over-cat [] at xs bs = refl
over-cat (x ∷ l) zero [] bs = refl
over-cat (x ∷ l) zero (a ∷ xs) bs =
    ap (λ (k : ℕ). overwrite (a ∷ overwrite l zero xs) k bs) (add-suc zero (length xs)) ∙ ap (λ (r : List ℕ). a ∷ r) (over-cat l zero xs bs)
over-cat (x ∷ l) (suc at) xs bs =
    ap (λ (k : ℕ). overwrite (x ∷ overwrite l at xs) k bs) (suc-add at (length xs)) ∙ ap (λ (r : List ℕ). x ∷ r) (over-cat l at xs bs)

-- a run in front of a run is one run
pub over-front : (l : List ℕ) (at : ℕ) (xs bs : List ℕ) → overwrite (overwrite l (at + length xs) bs) at xs ≡ overwrite l at (xs ++ bs)
unfolding overwrite
over-front [] at xs bs = refl
over-front (x ∷ l) zero [] bs = over-nil (overwrite (x ∷ l) zero bs) zero
over-front (x ∷ l) zero (a ∷ xs) bs =
    ap (λ (k : ℕ). overwrite (overwrite (x ∷ l) k bs) zero (a ∷ xs)) (add-suc zero (length xs)) ∙ ap (λ (r : List ℕ). a ∷ r) (over-front l zero xs bs)
over-front (x ∷ l) (suc at) xs bs =
    ap (λ (k : ℕ). overwrite (overwrite (x ∷ l) k bs) (suc at) xs) (suc-add at (length xs)) ∙ ap (λ (r : List ℕ). x ∷ r) (over-front l at xs bs)

-- one store
pub set-over : (l : List ℕ) (i v : ℕ) → set l i v ≡ overwrite l i (v ∷ [])
unfolding overwrite
set-over [] i v = refl
set-over (x ∷ l) zero v = ap (λ (r : List ℕ). v ∷ r) (sym (over-nil l zero))
set-over (x ∷ l) (suc i) v = ap (λ (r : List ℕ). x ∷ r) (set-over l i v)

-- one store after a run
pub over-snoc : (l : List ℕ) (at : ℕ) (bs : List ℕ) (v n : ℕ) → length bs ≡ n → set (overwrite l at bs) (at + n) v ≡ overwrite l at (bs ++ (v ∷ []))
over-snoc l at bs v n e = ap (λ (k : ℕ). set (overwrite l at bs) (at + k) v) (sym e) ∙ set-over (overwrite l at bs) (at + length bs) v ∙ over-cat l at bs (v ∷ [])

-- ---- a load

pub get_d-over-before : (l : List ℕ) (at : ℕ) (bs : List ℕ) (i d : ℕ) → i < at → get_or (overwrite l at bs) i d ≡ get_or l i d
unfolding overwrite
get_d-over-before [] at bs i d h = refl
get_d-over-before (x ∷ l) zero bs i d h = absurd (not-suc-le-zero h)
get_d-over-before (x ∷ l) (suc at) bs zero d h = refl
get_d-over-before (x ∷ l) (suc at) bs (suc i) d h = get_d-over-before l at bs i d (le_of_suc-le-suc h)

pub get_d-over-after : (l : List ℕ) (at : ℕ) (bs : List ℕ) (i d : ℕ) → at + length bs ≤ i → get_or (overwrite l at bs) i d ≡ get_or l i d
unfolding overwrite
get_d-over-after [] at bs i d h = refl
get_d-over-after (x ∷ l) zero [] i d h = refl
get_d-over-after (x ∷ l) zero (b ∷ bs) zero d h = absurd (omega arith)
get_d-over-after (x ∷ l) zero (b ∷ bs) (suc i) d h = get_d-over-after l zero bs i d (omega arith)
get_d-over-after (x ∷ l) (suc at) bs zero d h = absurd (omega arith)
get_d-over-after (x ∷ l) (suc at) bs (suc i) d h = get_d-over-after l at bs i d (omega arith)

-- ---- a part

pub length_part : (l : List ℕ) (at n : ℕ) → at + n ≤ length l → length (part l at n) ≡ n
length_part l at n h = simp (length-take, length-drop) (omega arith)

pub part-suc : (l : List ℕ) (at n : ℕ) → at + n < length l → part l at (n + 1) ≡ part l at n ++ (get_or l (at + n) 0 ∷ [])
part-suc l at n h =
    let g : n < length (drop at l) = simp length-drop (omega arith) in
    simp add-one (take-suc (drop at l) n 0 g ∙ ap (λ (v : ℕ). part l at n ++ (v ∷ [])) (get_or-drop at l n 0))

-- ---- a turn of a loop that copies

-- from another list
pub over-take : (d : List ℕ) (at : ℕ) (s : List ℕ) (j : ℕ) → j < length s → set (overwrite d at (take j s)) (at + j) (get_or s j 0) ≡ overwrite d at (take (j + 1) s)
over-take d at s j h =
    over-snoc d at (take j s) (get_or s j 0) j (simp length-take (omega arith))
    ∙ ap (overwrite d at) (simp add-one (sym (take-suc s j 0 h)))

-- down, within one list
pub over-down : (l : List ℕ) (to from j : ℕ) → to ≤ from → from + j < length l
    → set (overwrite l to (part l from j)) (to + j) (get_or (overwrite l to (part l from j)) (from + j) 0) ≡ overwrite l to (part l from (j + 1))
over-down l to from j h k =
    let m : length (part l from j) ≡ j = length_part l from j (omega arith) in
    ap (λ (v : ℕ). set (overwrite l to (part l from j)) (to + j) v) (get_d-over-after l to (part l from j) (from + j) 0 (omega arith))
    ∙ over-snoc l to (part l from j) (get_or l (from + j) 0) j m
    ∙ ap (overwrite l to) (sym (part-suc l from j k))

-- ---- a part of what was written

pub take-over : (k : ℕ) (l : List ℕ) (at : ℕ) (bs : List ℕ) → k ≤ at → take k (overwrite l at bs) ≡ take k l
unfolding overwrite
take-over zero l at bs h = refl
take-over (suc k) [] at bs h = refl
take-over (suc k) (x ∷ l) zero bs h = absurd (not-suc-le-zero h)
take-over (suc k) (x ∷ l) (suc at) bs h = ap (λ (r : List ℕ). x ∷ r) (take-over k l at bs (le_of_suc-le-suc h))

pub drop-over : (k : ℕ) (l : List ℕ) (at : ℕ) (bs : List ℕ) → at + length bs ≤ k → drop k (overwrite l at bs) ≡ drop k l
unfolding overwrite
drop-over k [] at bs h = refl
drop-over k (x ∷ l) zero [] h = refl
drop-over zero (x ∷ l) zero (b ∷ bs) h = absurd (omega arith)
drop-over (suc k) (x ∷ l) zero (b ∷ bs) h = drop-over k l zero bs (omega arith)
drop-over zero (x ∷ l) (suc at) bs h = absurd (omega arith)
drop-over (suc k) (x ∷ l) (suc at) bs h = drop-over k l at bs (omega arith)

-- a run that lies past k is a run in what is left after k
pub drop-over-add : (k : ℕ) (l : List ℕ) (at : ℕ) (bs : List ℕ) → drop k (overwrite l (k + at) bs) ≡ overwrite (drop k l) at bs
unfolding overwrite
drop-over-add zero l at bs = simp zero-add
drop-over-add (suc k) [] at bs = refl
drop-over-add (suc k) (x ∷ l) at bs = ap (λ (i : ℕ). drop (suc k) (overwrite (x ∷ l) i bs)) (suc-add k at) ∙ drop-over-add k l at bs

take_whole : (l bs : List ℕ) (n : ℕ) → n ≤ length bs → length bs ≤ length l → take n (overwrite l zero bs) ≡ take n bs
unfolding overwrite
take_whole l bs zero h k = refl
take_whole l [] (suc n) h k = absurd (not-suc-le-zero h)
take_whole [] (b ∷ bs) (suc n) h k = absurd (not-suc-le-zero k)
take_whole (x ∷ l) (b ∷ bs) (suc n) h k = ap (λ (r : List ℕ). b ∷ r) (take_whole l bs n (le_of_suc-le-suc h) (le_of_suc-le-suc k))

module _ (l : List ℕ) (at : ℕ) (bs : List ℕ) where
  pub part-before : (a n : ℕ) → a + n ≤ at → part (overwrite l at bs) a n ≡ part l a n
  part-before a n h =
      ap (λ (k : ℕ). take n (drop a (overwrite l k bs))) (sym (add-sub_of_le (omega arith)))
      ∙ ap (take n) (drop-over-add a l (at - a) bs) ∙ take-over n (drop a l) (at - a) bs (omega arith)

  pub part-after : (a n : ℕ) → at + length bs ≤ a → part (overwrite l at bs) a n ≡ part l a n
  part-after a n h = ap (take n) (drop-over a l at bs h)

  -- the run itself, or what it begins with
  pub part_in : (n : ℕ) → n ≤ length bs → at + length bs ≤ length l → part (overwrite l at bs) at n ≡ take n bs
  part_in n h k =
      ap (λ (i : ℕ). take n (drop at (overwrite l i bs))) (sym (add-zero at))
      ∙ ap (take n) (drop-over-add at l zero bs) ∙ take_whole (drop at l) bs n h (simp length-drop (omega arith))

  pub part_same : at + length bs ≤ length l → part (overwrite l at bs) at (length bs) ≡ bs
  part_same h = part_in (length bs) (le_refl (length bs)) h ∙ take-length bs

-- a part is two parts, one after the other
pub part-add : (l : List ℕ) (at n m : ℕ) → part l at (n + m) ≡ part l at n ++ part l (at + n) m
part-add l at n m = take-add n m (drop at l) ∙ ap (λ (r : List ℕ). part l at n ++ take m r) (drop-drop n at l)

-- writing what is there changes nothing
pub over-part : (l : List ℕ) (at n : ℕ) → overwrite l at (part l at n) ≡ l
unfolding overwrite
over-part [] at n = refl
over-part (x ∷ l) zero zero = refl
over-part (x ∷ l) zero (suc n) = ap (λ (r : List ℕ). x ∷ r) (over-part l zero n)
over-part (x ∷ l) (suc at) n = ap (λ (r : List ℕ). x ∷ r) (over-part l at n)

-- a later run over the same place wins
pub over-over : (l : List ℕ) (at : ℕ) (xs bs : List ℕ) → length xs ≤ length bs → overwrite (overwrite l at xs) at bs ≡ overwrite l at bs
unfolding overwrite
over-over [] at xs bs h = refl
over-over (x ∷ l) zero [] bs h = refl
over-over (x ∷ l) zero (y ∷ xs) [] h = absurd (not-suc-le-zero h)
over-over (x ∷ l) zero (y ∷ xs) (b ∷ bs) h = ap (λ (r : List ℕ). b ∷ r) (over-over l zero xs bs (le_of_suc-le-suc h))
over-over (x ∷ l) (suc at) xs bs h = ap (λ (r : List ℕ). x ∷ r) (over-over l at xs bs h)

-- runs apart from each other may change places
pub over-comm : (l : List ℕ) (at : ℕ) (xs : List ℕ) (bt : ℕ) (ys : List ℕ) → at + length xs ≤ bt
    → overwrite (overwrite l at xs) bt ys ≡ overwrite (overwrite l bt ys) at xs
unfolding overwrite
over-comm [] at xs bt ys h = refl
over-comm (x ∷ l) zero [] bt ys h = sym (over-nil (overwrite (x ∷ l) bt ys) zero)
over-comm (x ∷ l) zero (y ∷ xs) zero ys h = absurd (omega arith)
over-comm (x ∷ l) zero (y ∷ xs) (suc bt) ys h = ap (λ (r : List ℕ). y ∷ r) (over-comm l zero xs bt ys (omega arith))
over-comm (x ∷ l) (suc at) xs zero ys h = absurd (omega arith)
over-comm (x ∷ l) (suc at) xs (suc bt) ys h = ap (λ (r : List ℕ). x ∷ r) (over-comm l at xs bt ys (omega arith))

-- as a cut and a paste
pub over-eq : (l : List ℕ) (at : ℕ) (bs : List ℕ) → at + length bs ≤ length l → overwrite l at bs ≡ take at l ++ (bs ++ drop (at + length bs) l)
unfolding overwrite
over-eq [] zero [] h = refl
over-eq [] zero (b ∷ bs) h = absurd (omega arith)
over-eq [] (suc at) bs h = absurd (omega arith)
over-eq (x ∷ l) zero [] h = refl
over-eq (x ∷ l) zero (b ∷ bs) h =
    ap (λ (r : List ℕ). b ∷ r) (over-eq l zero bs (omega arith)) ∙ ap (λ (k : ℕ). (b ∷ bs) ++ drop k (x ∷ l)) (sym (add-suc zero (length bs)))
over-eq (x ∷ l) (suc at) bs h =
    ap (λ (r : List ℕ). x ∷ r) (over-eq l at bs (omega arith)) ∙ ap (λ (k : ℕ). x ∷ (take at l ++ (bs ++ drop k (x ∷ l)))) (sym (suc-add at (length bs)))

-- a part inside the run
pub part-inside : (l : List ℕ) (at : ℕ) (bs : List ℕ) (i n : ℕ) → i + n ≤ length bs → at + length bs ≤ length l → part (overwrite l at bs) (at + i) n ≡ part bs i n
part-inside l at bs i n h k =
    ap (take n) (sym (drop-drop i at (overwrite l at bs)) ∙ ap (λ (m : ℕ). drop i (drop at (overwrite l m bs))) (sym (add-zero at)) ∙ ap (drop i) (drop-over-add at l zero bs))
    ∙ ap (λ (r : List ℕ). part r i n) (over-eq (drop at l) zero bs (simp length-drop (omega arith)))
    ∙ ap (take n) (drop-append-le i bs _ (omega arith)) ∙ take-append-le n (drop i bs) _ (simp length-drop (omega arith))

-- a turn of a loop that fills
pub over-fill : (l : List ℕ) (at j v : ℕ) → set (overwrite l at (replicate j v)) (at + j) v ≡ overwrite l at (replicate (j + 1) v)
over-fill l at j v = over-snoc l at (replicate j v) v j (length-replicate j v) ∙ ap (overwrite l at) (replicate-append-replicate j 1 v)

-- a run that begins with what is there is a run further on
pub over-keep : (l : List ℕ) (at n : ℕ) (bs : List ℕ) → at + n ≤ length l → overwrite l at (part l at n ++ bs) ≡ overwrite l (at + n) bs
over-keep l at n bs h =
    sym (over-cat l at (part l at n) bs) ∙ ap₂ (λ (x : List ℕ) (k : ℕ). overwrite x (at + k) bs) (over-part l at n) (length_part l at n h)

pub part-cons : (l : List ℕ) (at n : ℕ) → at < length l → part l at (suc n) ≡ get_or l at 0 ∷ part l (at + 1) n
part-cons l at n h = ap (take (suc n)) (drop-cons l at 0 h) ∙ ap (λ (k : ℕ). get_or l at 0 ∷ part l k n) (sym (add-one at))
