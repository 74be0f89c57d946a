-- Document 01's P7, P8 and P9, from the definitions.
-- Assumes nothing.
use mathlib.Core.Path.{◌≡◌, refl}
use mathlib.Core.List.{[], ◌∷◌}
use Rattle.area.specs.Recut.{row, cut_rows, split_rows, merge_rows_from, merge_rows}

p7 : split_rows 22 (row 100 50 ∷ []) ≡ row 100 22 ∷ row 122 22 ∷ row 144 6 ∷ []
unfolding split_rows cut_rows
p7 = refl

p8 : merge_rows [] 100 (row 0 40 ∷ row 40 40 ∷ row 80 40 ∷ []) ≡ row 0 80 ∷ row 80 40 ∷ []
unfolding merge_rows merge_rows_from
p8 = refl

p9 : merge_rows (40 ∷ []) 100 (row 0 40 ∷ row 40 40 ∷ row 80 40 ∷ []) ≡ row 0 40 ∷ row 40 40 ∷ row 80 40 ∷ []
unfolding merge_rows merge_rows_from
p9 = refl
