-- The stand-in for the Air of station.rs: bits and seconds on the air (document 01, Profile). Definitions only.
use Rattle.std.specs.Prelude.{Bool, cond, ℕ, ◌*◌, get_or, Float}
use Rattle.std.specs.Float.{nan}
use Rattle.float.specs.Gear.{duration, cue_seconds, data_seconds}
use Rattle.level.specs.Ladder.{long_frame}
use Rattle.config.specs.declared.Air.{Air}
use Rattle.config.specs.declared.Profile.{Profile}

-- Level::coded_bits: the slot bits of level l
unfoldable pub slot_at : Air → ℕ → ℕ
slot_at a l = get_or a.slot_bits l 0

-- frame_bits of station.rs: the coded bits of whole frames at level l
unfoldable pub frame_bits : Air → ℕ → ℕ → ℕ
frame_bits a l frames = frames * slot_at a l

-- Air::max_bits of level l
unfoldable pub max_bits_at : Air → ℕ → ℕ
max_bits_at a l = get_or a.max_bits l 0

-- Air::duration of a data burst of so many bits at level l
unfoldable pub duration_at : Air → ℕ → ℕ → Float
duration_at a l bits = duration (get_or a.pre_s l nan) (get_or a.rate l nan) bits

-- Air::duration of a short ack (TINY) in a wave
unfoldable pub ack_at : Air → ℕ → Float
ack_at a w = get_or a.ack_s w nan

-- `data_s` of a burst of so many bits at level l, behind a cue or not
unfoldable pub data_at : Air → ℕ → ℕ → Bool → Float
data_at a l bits cue = data_seconds (get_or a.pre_s l nan) (get_or a.rate l nan) bits (cue_seconds cue a.cue_s)

-- Level::frame_bytes of level l
unfoldable pub frame_bytes : Profile → ℕ → ℕ
frame_bytes p l = cond (long_frame l) p.long_bytes p.short_bytes
