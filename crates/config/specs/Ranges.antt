-- Refusals 1 and 2: the profile's numbers, each in its range of document 01's Profile paragraph. Definitions only.
use Rattle.std.specs.Prelude.{Bool, not, ◌&&◌, ◌||◌, ℕ, [], ◌∷◌, leb, get_or, Float}
use Rattle.std.specs.Float.{nan, binary64}
use Rattle.std.specs.Float.Ieee.{of_bits, neg}
use Rattle.laws.specs.Tests.{all}
use Rattle.laws.specs.Span.{every, upto}
use Rattle.ieee.specs.Range.{inside, w32, w64}
use Rattle.config.specs.Durations.{slot_at, max_bits_at, ack_at}
use Rattle.harq.specs.declared.Harq.{Harq}
use Rattle.config.specs.declared.Air.{Air}
use Rattle.config.specs.declared.Marks.{Marks}
use Rattle.config.specs.declared.MaybeDb.{MaybeDb}
use Rattle.config.specs.declared.MaybeLevel.{MaybeLevel}
use Rattle.config.specs.declared.Lengths.{Lengths}
use Rattle.config.specs.declared.HoldTimes.{HoldTimes}
use Rattle.config.specs.declared.Profile.{Profile}

unfoldable pub between : ℕ → ℕ → ℕ → Bool
between lo hi n = leb lo n && leb n hi

-- "Every dB value -100 to 100"
unfoldable pub db_ok : Float → Bool
db_ok x = inside (neg (w32 100)) (w32 100) x

unfoldable pub maybe_db_ok : MaybeDb → Bool
maybe_db_ok m = not m.set || db_ok m.db

-- 0.01
abbrev pub hundredth : Float
hundredth = of_bits binary64 0x3f84_7ae1_47ae_147b

-- "Per level: slot bits 1 to 16,384, pre_s 0 to 60, rate 1 to 100,000 bits/s, max_bits 1 to 2^32 - 1"
unfoldable pub level_ok : Air → ℕ → Bool
level_ok a l =
    all (between 1 16384 (slot_at a l) ∷ inside (w64 0) (w64 60) (get_or a.pre_s l nan) ∷ inside (w64 1) (w64 100000) (get_or a.rate l nan) ∷ leb 1 (max_bits_at a l) ∷ [])

-- "Per wave: ack_s 0 to 60"
unfoldable pub ack_ok : Air → ℕ → Bool
ack_ok a w = inside (w64 0) (w64 60) (ack_at a w)

-- "cue_s 0 to 10"
unfoldable pub air_ok : Air → Bool
air_ok a = all (every (level_ok a) (upto 0 17) ∷ every (ack_ok a) (upto 0 6) ∷ inside (w64 0) (w64 10) a.cue_s ∷ [])

-- "Mother length and six rate ends, 1 to 16,384 each"
unfoldable pub end_ok : Harq → ℕ → Bool
end_ok q i = between 1 16384 (get_or q.ends i 0)

unfoldable pub harq_ok : Harq → Bool
harq_ok q = all (between 1 16384 q.mother ∷ every (end_ok q) (upto 0 6) ∷ [])

-- "Burst seconds (usual, long) 1 to 1,000, overhead 0.01 to 1, turnaround 0 to 60"
unfoldable pub lengths_ok : Lengths → Bool
lengths_ok b =
    all (inside (w64 1) (w64 1000) b.max_burst_s ∷ inside (w64 1) (w64 1000) b.max_burst_long_s ∷ inside hundredth (w64 1) b.burst_overhead
    ∷ inside (w64 0) (w64 60) b.turnaround_s ∷ db_ok b.burst_steady_db ∷ maybe_db_ok b.burst_climb_db ∷ [])

-- "fail_hold_s 1 to 100,000, other holds 0 to 1,000,000"
unfoldable pub holds_ok : HoldTimes → Bool
holds_ok h =
    all (inside (w64 1) (w64 100000) h.fail_hold_s ∷ inside (w64 0) (w64 1000000) h.fail_hold_max_s ∷ inside (w64 0) (w64 1000000) h.loss_hold_s ∷ [])

unfoldable pub threshold_ok : Marks → ℕ → Bool
threshold_ok m l = db_ok (get_or m.thresholds_db l nan)

unfoldable pub marks_ok : Marks → Bool
marks_ok m = all (every (threshold_ok m) (upto 0 17) ∷ db_ok m.margin_db ∷ [])

-- "Levels 0 to 16, also where optional; skip_slices_from 0 to 17"
unfoldable pub pin_ok : MaybeLevel → Bool
pin_ok m = not m.set || leb m.level 16

unfoldable pub levels_ok : Profile → Bool
levels_ok p = all (leb p.max_level 16 ∷ leb p.skip_slices_from 17 ∷ pin_ok p.pin_level ∷ [])

-- "Frame sizes, short and long, 18 to 512 bytes"; "The power table is none, AIR_MEAN_DB or AIR_MEAN_TD_DB"
unfoldable pub sizes_ok : Profile → Bool
sizes_ok p = all (between 18 512 p.short_bytes ∷ between 18 512 p.long_bytes ∷ leb p.power 2 ∷ [])

-- every number is in its range: where one is not, refusal 1
unfoldable pub in_range : Profile → Bool
in_range p =
    all (air_ok p.air ∷ harq_ok p.codes ∷ lengths_ok p.lengths ∷ holds_ok p.hold_times ∷ marks_ok p.plain ∷ marks_ok p.eff
    ∷ db_ok p.cue_below_db ∷ maybe_db_ok p.start_margin_db ∷ levels_ok p ∷ sizes_ok p ∷ [])

-- the short frame is no larger than the long: where it is, refusal 2
unfoldable pub in_order : Profile → Bool
in_order p = leb p.short_bytes p.long_bytes
