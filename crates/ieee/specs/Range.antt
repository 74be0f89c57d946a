-- Ranges of floats, and whole numbers as floats. Definitions only.
use Rattle.std.specs.Prelude.{Bool, ◌&&◌, ℕ, T, pos, Float}
use Rattle.std.specs.Float.{binary32, binary64}
use Rattle.std.specs.Float.Ieee.{of_int, le}

-- lo ≤ x ≤ hi, as Rust compares: so x is no NaN, and with finite ends it is finite
pub record In (lo hi x : Float) : Type 0 where
  pub low : T (le lo x)
  pub high : T (le x hi)

-- the same as a test: what is not a number is not in it
unfoldable pub inside : Float → Float → Float → Bool
inside lo hi x = le lo x && le x hi

-- a whole number, rounded to the nearest f32
abbrev pub w32 : ℕ → Float
w32 n = of_int binary32 (pos n)

-- and to the nearest f64
abbrev pub w64 : ℕ → Float
w64 n = of_int binary64 (pos n)
