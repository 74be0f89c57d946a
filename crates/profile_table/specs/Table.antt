-- The profile of a table of 146 numbers, in the order of docs/CALLS.md, The profile. Definitions only.
use Rattle.std.specs.Prelude.{Bool, true, false, cond, List, [], ◌∷◌, ◌++◌, ℕ, zero, suc, ◌+◌, ◌*◌, ◌%◌, ltb, eqb, get_or, Float}
use Rattle.std.specs.Float.{binary32, binary64}
use Rattle.std.specs.Float.Ieee.{of_bits}
use Rattle.harq.specs.declared.Harq.{Harq}
use Rattle.config.specs.declared.Air.{Air}
use Rattle.config.specs.declared.HoldTimes.{HoldTimes}
use Rattle.config.specs.declared.Lengths.{Lengths}
use Rattle.config.specs.declared.Marks.{Marks}
use Rattle.config.specs.declared.MaybeDb.{MaybeDb}
use Rattle.config.specs.declared.MaybeLevel.{MaybeLevel}
use Rattle.config.specs.declared.Profile.{Profile}

-- f 0, f 1, .., f (n - 1)
unfoldable pub row_of : {A : Type 0} → (ℕ → A) → ℕ → List A
row_of f zero = []
row_of f (suc n) = row_of f n ++ (f n ∷ [])

-- ---- a number of the table

-- where it is too wide for its field of 32 bits, `most` stands there
abbrev pub or_most : ℕ → ℕ → ℕ
or_most most n = cond (ltb n 4294967296) n most

-- as a field of 32 bits: the largest
abbrev pub u32_at : List ℕ → ℕ → ℕ
u32_at v k = or_most 4294967295 (get_or v k 0)

-- as a field of 8 bits: the largest
abbrev pub u8_at : List ℕ → ℕ → ℕ
u8_at v k = cond (ltb (get_or v k 0) 256) (get_or v k 0) 255

-- floats by their bits
abbrev pub double_at : List ℕ → ℕ → Float
double_at v k = of_bits binary64 (get_or v k 0)

abbrev pub single_of : ℕ → Float
single_of n = of_bits binary32 (n % 4294967296)

abbrev pub single_at : List ℕ → ℕ → Float
single_at v k = single_of (get_or v k 0)

abbrev pub flag_at : List ℕ → ℕ → Bool
flag_at v k = eqb (get_or v k 0) 1

-- 2^64 - 1 stands for `none`
unfoldable pub maybe_db_at : List ℕ → ℕ → MaybeDb
maybe_db_at v k =
    cond (eqb (get_or v k 0) 18446744073709551615) (record { set = false; db = of_bits binary32 0 }) (record { set = true; db = single_at v k })

unfoldable pub maybe_level_at : List ℕ → ℕ → MaybeLevel
maybe_level_at v k = cond (eqb (get_or v k 0) 18446744073709551615) (record { set = false; level = 0 })
    (record { set = true; level = get_or v k 0 })

-- ---- the fields

-- level l has the numbers from 4 l on: slot, pre_s, rate and max_bits, where 0 stands for a number too wide, since the largest is in range
unfoldable pub air_of : List ℕ → Air
air_of v =
    record {
      slot_bits = row_of (λ (l : ℕ). u32_at v (0 + 4 * l)) 17;
      pre_s = row_of (λ (l : ℕ). double_at v (1 + 4 * l)) 17;
      rate = row_of (λ (l : ℕ). double_at v (2 + 4 * l)) 17;
      max_bits = row_of (λ (l : ℕ). or_most 0 (get_or v (3 + 4 * l) 0)) 17;
      ack_s = double_at v 68 ∷ double_at v 69 ∷ double_at v 70 ∷ double_at v 71 ∷ double_at v 72 ∷ double_at v 73 ∷ [];
      cue_s = double_at v 74;
    }

unfoldable pub codes_of : List ℕ → Harq
codes_of v = record { mother = u32_at v 77; ends = u32_at v 78 ∷ u32_at v 79 ∷ u32_at v 80 ∷ u32_at v 81 ∷ u32_at v 82 ∷ u32_at v 83 ∷ [] }

unfoldable pub lengths_of : List ℕ → Lengths
lengths_of v =
    record {
      max_burst_s = double_at v 84;
      max_burst_long_s = double_at v 85;
      burst_overhead = double_at v 86;
      turnaround_s = double_at v 87;
      burst_adapt = flag_at v 139;
      burst_steady_db = single_at v 128;
      burst_climb_db = maybe_db_at v 130;
    }

unfoldable pub hold_times_of : List ℕ → HoldTimes
hold_times_of v = record { fail_hold_s = double_at v 88; fail_hold_max_s = double_at v 89; loss_hold_s = double_at v 90 }

-- 17 thresholds from a place on, and a margin
unfoldable pub marks_from : List ℕ → ℕ → ℕ → Marks
marks_from v at margin = record { thresholds_db = row_of (λ (l : ℕ). single_at v (at + l)) 17; margin_db = single_at v margin }

unfoldable pub profile_of : List ℕ → Profile
profile_of v =
    record {
      air = air_of v;
      short_bytes = u32_at v 75;
      long_bytes = u32_at v 76;
      codes = codes_of v;
      lengths = lengths_of v;
      hold_times = hold_times_of v;
      plain = marks_from v 91 125;
      eff = marks_from v 108 126;
      eff_snr = flag_at v 138;
      cue_below_db = single_at v 127;
      start_margin_db = maybe_db_at v 129;
      max_level = get_or v 131 0;
      skip_slices_from = get_or v 132 0;
      pin_level = maybe_level_at v 133;
      goodput = flag_at v 134;
      power = u8_at v 135;
      harq = flag_at v 136;
      pick_family = flag_at v 137;
      smooth_target = flag_at v 140;
      hold_by_goodput = flag_at v 141;
      slice_slots = flag_at v 142;
      merge_pieces = flag_at v 143;
      cue = flag_at v 144;
      harq_partial = flag_at v 145;
    }
