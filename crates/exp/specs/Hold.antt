-- A hold that doubles with each failure, up to a cap (gear.rs, `on_ack`). Definitions only.
use Rattle.std.specs.Prelude.{ℕ, pos, Float}
use Rattle.std.specs.Float.{binary64}
use Rattle.std.specs.Float.Ieee.{mul}
use Rattle.ieee.specs.Power.{power}
use Rattle.float.specs.Pick.{min_f}

-- (first * 2f64.powi(n)).min(cap)
abbrev pub hold_of : Float → ℕ → Float → Float
hold_of first n cap = min_f (mul binary64 first (power (pos n))) cap
