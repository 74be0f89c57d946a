-- A rule of a constant table: one test that antt computes over the whole table, and what it says of each entry.
-- Assumes nothing.
use mathlib.Core.Path.{◌≡◌, refl}
use mathlib.Core.Bool.{Bool, true, false, ◌&&◌}
use mathlib.Core.List.{List, [], ◌∷◌}
use Prim.Native.Nat.{ℕ, zero, suc}
use lib.Dec.{T, eqb, eqb→eq}
use lib.Ieee.Fits.{and_l, and_r}
use lib.ListN.{get_or}

abbrev pub passes : {A : Type 0} → (A → Bool) → List A → Bool
passes p [] = true
passes p (x ∷ xs) = p x && passes p xs

-- d is what stands past the end
pub entry : {A : Type 0} (p : A → Bool) (xs : List A) (d : A) (k : ℕ) → T (p d) → T (passes p xs) → T (p (get_or xs k d))
entry p [] d k h t = h
entry p (x ∷ xs) d zero h t = and_l (p x) (passes p xs) t
entry p (x ∷ xs) d (suc k) h t = entry p xs d k h (and_r (p x) (passes p xs) t)

-- two lists of numbers are the same
abbrev pub alike : List ℕ → List ℕ → Bool
alike [] [] = true
alike [] (y ∷ ys) = false
alike (x ∷ xs) [] = false
alike (x ∷ xs) (y ∷ ys) = eqb x y && alike xs ys

pub alike_same : (xs ys : List ℕ) → T (alike xs ys) → xs ≡ ys
alike_same [] [] t = refl
alike_same [] (y ∷ ys) t = elim t [ ]
alike_same (x ∷ xs) [] t = elim t [ ]
alike_same (x ∷ xs) (y ∷ ys) t = λ i. eqb→eq x y (and_l (eqb x y) (alike xs ys) t) i ∷ alike_same xs ys (and_r (eqb x y) (alike xs ys) t) i
