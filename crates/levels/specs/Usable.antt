-- Which levels may be used. Definitions only.
use Rattle.std.specs.Prelude.{ℕ, ◌+◌, max, Bool, true, false, cond, not, ◌&&◌, ◌||◌, ◌==◌, from_bits, nat_lt, slice_index_or, Float}
use Rattle.std.specs.Float.{nan, binary32}
use Rattle.std.specs.Float.Ieee.{add, le}
use Rattle.laws.specs.Steps.{highest}
use Rattle.laws.specs.Span.{upto, every, first, last_of}
use Rattle.level.specs.Ladder.{wave_rank, long_frame, air_mean, air_mean_td, guard_ms, is_step}
use Rattle.config.specs.Entries.{entry_at}
use Rattle.config.specs.declared.Marks.{Marks}
use Rattle.config.specs.declared.MaybeLevel.{MaybeLevel}
use Rattle.report.specs.declared.ChanClass.{ChanClass}
use Rattle.levels.specs.declared.usable.Holds.{Holds}

-- `air_db`, by the power table: 1 is AIR_MEAN_DB, 2 AIR_MEAN_TD_DB
unfoldable pub air_db : ℕ → ℕ → Float
air_db power l = cond (power == 1) (air_mean l) (cond (power == 2) (air_mean_td l) (from_bits binary32 0))

-- the class that the gear goes by: without pick_family, none
unfoldable pub heeded : Bool → ChanClass → ChanClass
heeded pick c = cond pick c (record { echo = false; doppler = false })

-- `family_ok`: MFSK always, OFDM with the long guard without Doppler, other OFDM without either
unfoldable pub family_ok : ChanClass → ℕ → Bool
family_ok c l = cond (nat_lt (wave_rank l) 3) true (cond (wave_rank l == 4) (not c.doppler) (not c.doppler && not c.echo))

-- `level_for`
unfoldable pub enough : Marks → ℕ → ChanClass → ℕ → Float → Bool
enough m power c l db = family_ok c l && le (entry_at m l) (add binary32 db (air_db power l))

unfoldable pub level_for : Marks → ℕ → ChanClass → ℕ → Float → ℕ
level_for m power c top db = highest (λ l. enough m power c l db) (top + 1) 0

-- `usable`: of each level k up to l, its hold is over, or k is another that the channel failed and l has the longer guard
unfoldable pub passes : Float → Bool → ℕ → Float → ℕ → Bool
passes until all l now k = le until now || (not (k == l) && not all && nat_lt (guard_ms (wave_rank k)) (guard_ms (wave_rank l)))

abbrev pub passes_at : Holds → ℕ → Float → ℕ → Bool
passes_at h l now k = passes (slice_index_or h.blocked_until k nan) (slice_index_or h.hold_all k false) l now k

unfoldable pub usable : Holds → ChanClass → Float → ℕ → Bool
usable h c now l = family_ok c l && every (passes_at h l now) (upto 0 (l + 1))

-- `usable_below`
unfoldable pub usable_below : Holds → ChanClass → MaybeLevel → ℕ → Float → ℕ
usable_below h c pin l now = cond pin.set pin.level (highest (usable h c now) (l + 1) 0)

-- `climb_above`
unfoldable pub climbs : Holds → ChanClass → Bool → Float → ℕ → Bool
climbs h c skip now k = usable h c now k && not (skip && is_step k)

unfoldable pub climb_above : Holds → ChanClass → Bool → ℕ → ℕ → Float → ℕ
climb_above h c skip at n now = last_of (climbs h c skip now) n at (upto (at + 1) 17)

-- `step_down`: the first or the second allowed level below; from a long-frame level no further than the lowest with long frames
unfoldable pub allowed_below : ChanClass → ℕ → ℕ
allowed_below c at = highest (family_ok c) at 0

unfoldable pub nth_below : ChanClass → ℕ → Bool → ℕ
nth_below c at second = cond second (allowed_below c (allowed_below c at)) (allowed_below c at)

unfoldable pub lowest_long : ChanClass → ℕ → ℕ
lowest_long c at = first (λ l. family_ok c l && long_frame l) 0 (upto 0 at)

unfoldable pub step_down : ChanClass → ℕ → Bool → ℕ
step_down c at second = cond (long_frame at) (max (nth_below c at second) (lowest_long c at)) (nth_below c at second)
