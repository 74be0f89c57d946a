-- Rust's `min`, `max`, `clamp` and `abs` of floats. Definitions only.
use Rattle.std.specs.Prelude.{false, cond, is_nan, Float}
use Rattle.std.specs.Float.{nan, inf, fin}
use Rattle.std.specs.Float.Ieee.{lt}

-- the smaller; where one is not a number, the other (IEEE 754-2019, 9.6, minimumNumber). Of two zeros the first: Rust leaves that open
unfoldable pub min_f : Float → Float → Float
min_f x y = cond (is_nan x) y (cond (lt y x) y x)

-- the larger, in the same way (maximumNumber)
unfoldable pub max_f : Float → Float → Float
max_f x y = cond (is_nan x) y (cond (lt x y) y x)

-- x brought into the range from lo to hi; what is not a number stays so
unfoldable pub clamp_f : Float → Float → Float → Float
clamp_f x lo hi = let y = cond (lt x lo) lo x in cond (lt hi y) hi y

-- without its sign (IEEE 754-2019, 5.5.1, abs)
unfoldable pub abs_f : Float → Float
abs_f nan = nan
abs_f (inf s) = inf false
abs_f (fin s m e) = fin false m e
