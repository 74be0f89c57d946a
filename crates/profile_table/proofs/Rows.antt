-- A loop that fills an array with `f 0`, `f 1`, ..: a turn of it, and its end, over any kind of element. Assumes nothing.
use Prim.Native.Nat.{ℕ, ◌+◌, ◌≤◌, ◌<◌}
use mathlib.Core.Path.{◌≡◌, refl, sym, ap, ap₂, ◌∙◌}
use mathlib.Core.List.{List, [], ◌∷◌, ◌++◌}
use native.Mathlib.Numerals.{add-one}
use native.Mathlib.Omega.{arith}
use lib.ListN.{length, take, set}
use lib.Seq.{take-suc-set, take_all}
use Rattle.profile_table.specs.Table.{row_of}

module _ {A : Type 0} (f : ℕ → A) where
  pub row-none : ◌≡◌ {A = List A} [] (row_of f 0)
  unfolding row_of
  row-none = refl

  pub row-turn : (l : ℕ) (x : List A) (v : A) → l < length x → take l x ≡ row_of f l → v ≡ f l → take (l + 1) (set x l v) ≡ row_of f (l + 1)
  unfolding row_of
  row-turn l x v h e q = rw add-one (take-suc-set x l v h ∙ ap₂ (λ (xs : List A) (w : A). xs ++ (w ∷ [])) e q)

  pub row-end : (n l : ℕ) (x : List A) → length x ≡ n → n ≤ l → l ≤ n → take l x ≡ row_of f l → x ≡ row_of f n
  row-end n l x h a b e = let d : l ≡ n = omega arith in sym (take_all l x (omega arith)) ∙ e ∙ ap (row_of f) d
