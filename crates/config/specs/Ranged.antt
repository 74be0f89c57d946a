-- What refusal 1 leaves, as facts: proofs/ranges/Ranged.antt proves that `in_range` is true exactly where `Ranged` holds. Follows the code or serves proofs: nothing here has to be believed.
use Rattle.std.specs.Prelude.{◌≡◌, true, ℕ, ◌<◌, ◌≤◌, get_or, Float}
use Rattle.std.specs.Float.{nan}
use Rattle.std.specs.Float.Ieee.{neg}
use Rattle.ieee.specs.Range.{In, w32, w64}
use Rattle.harq.specs.declared.Harq.{Harq}
use Rattle.config.specs.Durations.{slot_at, max_bits_at, ack_at}
use Rattle.config.specs.Ranges.{hundredth}
use Rattle.config.specs.declared.Air.{Air}
use Rattle.config.specs.declared.Marks.{Marks}
use Rattle.config.specs.declared.Lengths.{Lengths}
use Rattle.config.specs.declared.HoldTimes.{HoldTimes}
use Rattle.config.specs.declared.Profile.{Profile}

-- "Every dB value -100 to 100"
abbrev pub Db : Float → Type 0
Db x = In (neg (w32 100)) (w32 100) x

pub record LevelRanged (a : Air) (l : ℕ) : Type 0 where
  pub slot : (1 ≤ slot_at a l) × (slot_at a l ≤ 16384)
  pub most : 1 ≤ max_bits_at a l
  pub pre : In (w64 0) (w64 60) (get_or a.pre_s l nan)
  pub rate : In (w64 1) (w64 100000) (get_or a.rate l nan)

pub record AirRanged (a : Air) : Type 0 where
  pub level : (l : ℕ) → l < 17 → LevelRanged a l
  pub ack : (w : ℕ) → w < 6 → In (w64 0) (w64 60) (ack_at a w)
  pub cue : In (w64 0) (w64 10) a.cue_s

pub record HarqRanged (q : Harq) : Type 0 where
  pub mother : (1 ≤ q.mother) × (q.mother ≤ 16384)
  pub ends : (i : ℕ) → i < 6 → (1 ≤ get_or q.ends i 0) × (get_or q.ends i 0 ≤ 16384)

pub record LengthsRanged (b : Lengths) : Type 0 where
  pub usual : In (w64 1) (w64 1000) b.max_burst_s
  pub long : In (w64 1) (w64 1000) b.max_burst_long_s
  pub overhead : In hundredth (w64 1) b.burst_overhead
  pub turnaround : In (w64 0) (w64 60) b.turnaround_s
  pub steady : Db b.burst_steady_db
  pub climb : b.burst_climb_db.set ≡ true → Db b.burst_climb_db.db

pub record HoldsRanged (h : HoldTimes) : Type 0 where
  pub fail : In (w64 1) (w64 100000) h.fail_hold_s
  pub most : In (w64 0) (w64 1000000) h.fail_hold_max_s
  pub loss : In (w64 0) (w64 1000000) h.loss_hold_s

pub record MarksRanged (m : Marks) : Type 0 where
  pub threshold : (l : ℕ) → l < 17 → Db (get_or m.thresholds_db l nan)
  pub margin : Db m.margin_db

-- every number of the profile is in its range
pub record Ranged (p : Profile) : Type 0 where
  pub air : AirRanged p.air
  pub codes : HarqRanged p.codes
  pub lengths : LengthsRanged p.lengths
  pub holds : HoldsRanged p.hold_times
  pub plain : MarksRanged p.plain
  pub eff : MarksRanged p.eff
  pub cue : Db p.cue_below_db
  pub start : p.start_margin_db.set ≡ true → Db p.start_margin_db.db
  pub top : p.max_level ≤ 16
  pub skip : p.skip_slices_from ≤ 17
  pub pin : p.pin_level.set ≡ true → p.pin_level.level ≤ 16
  pub short : (18 ≤ p.short_bytes) × (p.short_bytes ≤ 512)
  pub long : (18 ≤ p.long_bytes) × (p.long_bytes ≤ 512)
  pub power : p.power ≤ 2
