-- Rust's `floor`, and whole numbers of a float. Definitions only.
use Rattle.std.specs.Prelude.{ℕ, ◌+◌, ◌-◌, ◌*◌, ◌/◌, ◌^◌, min, true, false, cond, Float}
use Rattle.std.specs.Float.{nan, inf, fin, binary64}
use Rattle.std.specs.Float.Ieee.{up, down, round, mul, to_unsigned}
use Rattle.ieee.specs.Range.{w64}
use Rattle.float.specs.Pick.{max_f}

-- the fraction a / b, up to a whole number
abbrev pub ceil_div : ℕ → ℕ → ℕ
ceil_div a b = (a + (b - 1)) / b

-- the largest whole number that is no more than x (IEEE 754-2019, 5.9, roundToIntegralTowardNegative): a NaN and an infinity
-- stay, and so does a zero's sign
unfoldable pub floor_f : Float → Float
floor_f nan = nan
floor_f (inf s) = inf s
floor_f (fin false m e) = round binary64 false (m * up e / down e) 1
floor_f (fin true m e) = round binary64 true (ceil_div (m * up e) (down e)) 1

-- the smallest whole number that is no less than x, brought into a u64: Rust's `x.ceil() as u64`, so 0 for a NaN
unfoldable pub ceil_u : Float → ℕ
ceil_u nan = 0
ceil_u (inf s) = cond s 0 (2 ^ 64 - 1)
ceil_u (fin s m e) = cond s 0 (min (ceil_div (m * up e) (down e)) (2 ^ 64 - 1))

-- seconds as whole milliseconds (document 01, "Written anew"): times 1,000, rounded once, then up to a whole number
abbrev pub millis : Float → ℕ
millis x = ceil_u (mul binary64 x (w64 1000))

-- `x.floor().max(1.0) as u64` (gear.rs, `level_rate`)
abbrev pub count_of : Float → ℕ
count_of x = to_unsigned 64 (max_f (floor_f x) (w64 1))
