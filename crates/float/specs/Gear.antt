-- The gear's own numbers (gear.rs). Definitions only.
use Rattle.std.specs.Prelude.{ℕ, Bool, cond, from_bits, Float}
use Rattle.std.specs.Float.{binary32, binary64}
use Rattle.std.specs.Float.Ieee.{add, sub, mul, div}
use Rattle.ieee.specs.Range.{w32, w64}

-- seconds of a burst without the cue (document 01, "Profile."): pre_s + bits / rate, each operation rounded once
abbrev pub duration : Float → Float → ℕ → Float
duration pre rate bits = add binary64 pre (div binary64 (w64 bits) rate)

-- the seconds of a cue, if one goes
abbrev pub cue_seconds : Bool → Float → Float
cue_seconds cue s = cond cue s (from_bits binary64 0)

-- `data_s`: seconds of a burst behind its cue, whose seconds are 0 where none goes, each operation rounded once
abbrev pub data_seconds : Float → Float → ℕ → Float → Float
data_seconds pre rate bits cue = add binary64 (duration pre rate bits) cue

-- 0.3f32: `SUCCESS_WEIGHT`
abbrev pub success_weight : Float
success_weight = from_bits binary32 0x3e99_999a

-- `on_ack`: the share of a level that had p, after a burst of which the share ok came through: p + SUCCESS_WEIGHT * (ok - p)
abbrev pub share : Float → Float → Float
share p ok = add binary32 p (mul binary32 success_weight (sub binary32 ok p))

-- `on_ack`: the share of `sent` frames that did not come through, where `got` did: 1.0 - got as f32 / sent as f32
abbrev pub loss_of : ℕ → ℕ → Float
loss_of got sent = sub binary32 (w32 1) (div binary32 (w32 got) (w32 sent))

-- 0.99f32: the loss above which `on_ack` takes the whole burst for lost
abbrev pub whole_loss : Float
whole_loss = from_bits binary32 0x3f7d_70a4

-- 0.3f32: the loss above which `on_ack` steps down
abbrev pub loss_to_step_down : Float
loss_to_step_down = from_bits binary32 0x3e99_999a
