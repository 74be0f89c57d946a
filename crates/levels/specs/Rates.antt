-- What a level's rate goes by, and the rate: `level_rate` of gear.rs. Definitions only.
use Rattle.std.specs.Prelude.{ℕ, ◌*◌, Bool, cond, from_bits, slice_index, slice_index_or, Float}
use Rattle.std.specs.Float.{nan, binary64}
use Rattle.std.specs.Float.Ieee.{sub, mul, div}
use Rattle.ieee.specs.Range.{w64}
use Rattle.float.specs.Pick.{max_f}
use Rattle.float.specs.Gear.{cue_seconds, data_seconds}
use Rattle.float.specs.Floor.{floor_f, count_of}
use Rattle.level.specs.Ladder.{long_frame}
use Rattle.config.specs.declared.Profile.{Profile}
use Rattle.levels.specs.declared.rates.Pace.{Pace}

-- what a profile says of level l
abbrev pub pace_at : Profile → ℕ → Pace
pace_at p l =
    record {
      usual = p.lengths.max_burst_s;
      pre_s = slice_index_or p.air.pre_s l nan;
      rate = slice_index_or p.air.rate l nan;
      cue_s = p.air.cue_s;
      slot = slice_index p.air.slot_bits l;
      short_bytes = p.short_bytes;
      long_bytes = p.long_bytes;
    }

-- frame_bytes() * 8
unfoldable pub payload_bits : Pace → ℕ → ℕ
payload_bits q l = cond (long_frame l) (q.long_bytes * 8) (q.short_bytes * 8)

-- 1e-3
abbrev pub thousandth : Float
thousandth = from_bits binary64 0x3f50_624d_d2f1_a9fc

-- (max_burst_s - fixed) / frame.max(1e-3)
unfoldable pub frames_per_burst : Float → Float → Float → Float
frames_per_burst burst one two =
    let frame = sub binary64 two one in
    let fixed = sub binary64 one frame in
    div binary64 (sub binary64 burst fixed) (max_f frame thousandth)

-- `data_s` of so many bits, behind a cue or not
abbrev pub pace_s : Pace → ℕ → Bool → Float
pace_s q bits cue = data_seconds q.pre_s q.rate bits (cue_seconds cue q.cue_s)

-- `level_rate`, on the numbers of level l: `frames` before its floor
unfoldable pub pace_rate : Pace → ℕ → Bool → Float
pace_rate q l cue =
    let one = pace_s q q.slot cue in
    let two = pace_s q (2 * q.slot) cue in
    let frames = frames_per_burst q.usual one two in
    let burst = pace_s q (count_of frames * q.slot) cue in
    div binary64 (mul binary64 (max_f (floor_f frames) (w64 1)) (w64 (payload_bits q l))) (max_f burst thousandth)

-- and on a profile's
abbrev pub level_rate : Profile → ℕ → Bool → Float
level_rate p l cue = pace_rate (pace_at p l) l cue
