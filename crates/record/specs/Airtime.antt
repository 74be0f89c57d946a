-- The airtime count, in whole milliseconds (document 01, "Written anew"; document 02, Change 4). Definitions only.
use Rattle.std.specs.Prelude.{ℕ, ◌+◌, ◌-◌, ◌^◌, min, Float}
use Rattle.float.specs.Floor.{millis}
use Rattle.record.specs.Setters.{with_counts, with_airtime}
use Rattle.record.specs.declared.Sender.{Sender}

-- the count with so many seconds more: "Each is rounded up to a millisecond separately .. The sum still stays at 2^64 - 1 once there"
abbrev pub air_added : ℕ → Float → ℕ
air_added ms seconds = min (ms + millis seconds) (2 ^ 64 - 1)

abbrev pub with_air : Sender → ℕ → Sender
with_air s ms = with_counts s (with_airtime s.counts ms)
