-- Powers of two, and their exponent's field in the pattern of an f64 (IEEE 754-2019, 3.4). Definitions only.
use Rattle.std.specs.Prelude.{false, ℕ, ◌+◌, ◌-◌, ℤ, pos, negsuc, Float}
use Rattle.std.specs.Float.{fin}

-- 2 ^ k
abbrev pub power : ℤ → Float
power k = fin false 1 k

-- k + 1023, for a k from -1022 on
abbrev pub biased : ℤ → ℕ
biased (pos n) = n + 1023
biased (negsuc n) = 1022 - n
