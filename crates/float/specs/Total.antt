-- IEEE 754-2019, 5.10, totalOrder (Rust's `total_cmp`), and the median of three by it. Definitions only.
use Rattle.std.specs.Prelude.{Bool, true, cond, not, ◌&&◌, ◌||◌, List, [], ◌∷◌, is_nan, slice_index_or, Float}
use Rattle.std.specs.Float.{nan, inf, fin}
use Rattle.std.specs.Float.Ieee.{lt, eq}

abbrev pub sign : Float → Bool
sign nan = true
sign (inf s) = s
sign (fin s m e) = s

-- x equals y, and is not +0 where y is -0
abbrev pub level : Float → Float → Bool
level x y = eq x y && (sign x || not (sign y))

-- x is not after y: by size, -0 before +0. lib.Ieee has one NaN; it comes first, as one whose sign is set does
unfoldable pub total_le : Float → Float → Bool
total_le x y = is_nan x || (lt x y || level x y)

-- x put before the first that it is not after
unfoldable pub insert : Float → List Float → List Float
insert x [] = x ∷ []
insert x (y ∷ ys) = cond (total_le x y) (x ∷ y ∷ ys) (y ∷ insert x ys)

-- `sort_by(total_cmp)`
unfoldable pub sort : List Float → List Float
sort [] = []
sort (x ∷ xs) = insert x (sort xs)

-- the second of the three in that order
unfoldable pub median_f : Float → Float → Float → Float
median_f a b c = slice_index_or (sort (a ∷ b ∷ c ∷ [])) 1 nan
