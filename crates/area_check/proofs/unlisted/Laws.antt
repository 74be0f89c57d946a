-- A turn of the loop over the offsets.
-- Assumes nothing.
use mathlib.Core.Path.{◌≡◌, refl, sym, ap, ◌∙◌}
use mathlib.Core.List.{List, [], ◌∷◌}
use mathlib.Core.Bool.{Bool, true, false, not, ◌&&◌}
use Prim.Native.Nat.{ℕ, ◌+◌, ◌≤◌, ◌<◌}
use native.Mathlib.Omega.{arith}
use native.Mathlib.Numerals.{add-one}
use lib.ListN.{length, drop, get_or, drop_of_length-le}
use lib.Seq.{drop-cons}
use Rattle.laws.specs.Lists.{listed}
use Rattle.area_check.specs.Rows.{none_listed}

unlisted-turn : (xs ys : List ℕ) (i : ℕ) → i < length xs → none_listed (drop i xs) ys ≡ (not (listed (get_or xs i 0) ys) && none_listed (drop (i + 1) xs) ys)
unfolding none_listed
unlisted-turn xs ys i h = ap (λ (l : List ℕ). none_listed l ys) (drop-cons xs i 0 h ∙ ap (λ (k : ℕ). get_or xs i 0 ∷ drop k xs) (sym (add-one i)))

module _ (xs ys : List ℕ) (i : ℕ) (h : i < length xs) where
  pub unlisted-pass : listed (get_or xs i 0) ys ≡ false → none_listed (drop i xs) ys ≡ none_listed (drop (i + 1) xs) ys
  unlisted-pass e = unlisted-turn xs ys i h ∙ ap (λ (b : Bool). not b && none_listed (drop (i + 1) xs) ys) e

  pub unlisted-hit : listed (get_or xs i 0) ys ≡ true → none_listed (drop i xs) ys ≡ false
  unlisted-hit e = unlisted-turn xs ys i h ∙ ap (λ (b : Bool). not b && none_listed (drop (i + 1) xs) ys) e

pub unlisted-end : (xs ys : List ℕ) (i : ℕ) → length xs ≤ i → none_listed (drop i xs) ys ≡ true
unfolding none_listed
unlisted-end xs ys i h = ap (λ (l : List ℕ). none_listed l ys) (drop_of_length-le xs h)

-- none is among none
pub unlisted-none : (xs ys : List ℕ) → length ys ≡ 0 → none_listed xs ys ≡ true
unfolding none_listed
unlisted-none [] ys e = refl
unlisted-none (x ∷ xs) [] e = unlisted-none xs [] e
unlisted-none (x ∷ xs) (y ∷ ys) e = absurd (omega (arith, e))
