-- A profile as a file (document 02, Change 3): "a one-byte version, then four sections in a fixed order, each after its two-byte count of
-- bytes, low byte first: levels, waves, thresholds, options". Inside a section "each number low byte first and each float by its bits".
-- Definitions only.
use Rattle.std.specs.Prelude.{ℕ, zero, suc, ◌+◌, Bool, false, cond, not, ◌&&◌, ◌||◌, List, [], ◌∷◌, ◌++◌, map, leb, ltb, eqb, length, get_or, Float, Result, Ok, Err}
use Rattle.std.specs.Float.{binary32, binary64}
use Rattle.std.specs.Float.Ieee.{of_bits, to_bits, ne}
use Rattle.laws.specs.Tests.{all}
use Rattle.laws.specs.Span.{every, upto}
use Rattle.laws.specs.Bytes.{overwrite, part}
use Rattle.laws.specs.Little.{num, le}
use Rattle.harq.specs.declared.Harq.{Harq}
use Rattle.config.specs.declared.Air.{Air}
use Rattle.config.specs.declared.Marks.{Marks}
use Rattle.config.specs.declared.Lengths.{Lengths}
use Rattle.config.specs.declared.MaybeDb.{MaybeDb}
use Rattle.config.specs.declared.MaybeLevel.{MaybeLevel}
use Rattle.config.specs.declared.HoldTimes.{HoldTimes}
use Rattle.config.specs.declared.Profile.{Profile}
use Rattle.config.specs.Ranges.{in_range, in_order}
use Rattle.card.specs.declared.Taken.{Taken}
use Rattle.card.specs.declared.Refusal.{Refusal}
use Rattle.card.specs.declared.Refusal.TheVariants.{OutOfRange, ShortOverLong, BadVersion, BadLength, HarqStretch}

-- ---- numbers and floats

-- a float by its bits; any NaN as all ones
abbrev pub bits64 : Float → ℕ
bits64 x = cond (ne x x) 18446744073709551615 (to_bits binary64 x)

abbrev pub bits32 : Float → ℕ
bits32 x = cond (ne x x) 4294967295 (to_bits binary32 x)

-- off is 0, on is 1
abbrev pub flag_byte : Bool → ℕ
flag_byte b = cond b 1 0

-- each number as k bytes
unfoldable pub packed : ℕ → List ℕ → List ℕ
packed k [] = []
packed k (v ∷ vs) = le k v ++ packed k vs

-- the number of k bytes at a place, and n of them in a row
abbrev pub at : ℕ → List ℕ → ℕ → ℕ
at k bs i = num (part bs i k)

unfoldable pub numbers_at : ℕ → ℕ → List ℕ → ℕ → List ℕ
numbers_at k zero bs i = []
numbers_at k (suc n) bs i = at k bs i ∷ numbers_at k n bs (i + k)

-- ---- the sections

-- for every level slot_bits, then pre_s, rate and max_bits
unfoldable pub levels_of : Air → List ℕ
levels_of a =
    packed 4 a.slot_bits ++ (packed 8 (map bits64 a.pre_s) ++ (packed 8 (map bits64 a.rate) ++ packed 4 a.max_bits))

-- for every wave ack_s
unfoldable pub waves_of : Air → List ℕ
waves_of a = packed 8 (map bits64 a.ack_s)

-- for every level a threshold, then the margin; plain, then eff
unfoldable pub marks_bytes : Marks → List ℕ
marks_bytes m = packed 4 (map bits32 m.thresholds_db) ++ le 4 (bits32 m.margin_db)

unfoldable pub thresholds_of : Profile → List ℕ
thresholds_of p = marks_bytes p.plain ++ marks_bytes p.eff

-- the options: eight doubles,
unfoldable pub doubles : Profile → List Float
doubles p =
    p.air.cue_s ∷ p.lengths.max_burst_s ∷ p.lengths.max_burst_long_s ∷ p.lengths.burst_overhead
    ∷ p.lengths.turnaround_s
    ∷ p.hold_times.fail_hold_s ∷ p.hold_times.fail_hold_max_s ∷ p.hold_times.loss_hold_s ∷ []

-- nine whole numbers,
unfoldable pub whole_numbers : Profile → List ℕ
whole_numbers p = p.short_bytes ∷ p.long_bytes ∷ p.codes.mother ∷ p.codes.ends

-- four singles; a value beside an option that is off stands there too
unfoldable pub singles : Profile → List Float
singles p = p.lengths.burst_steady_db ∷ p.lengths.burst_climb_db.db ∷ p.cue_below_db ∷ p.start_margin_db.db ∷ []

-- the highest level, skip_slices_from and the power table in a byte each, and the pinned level,
unfoldable pub smalls_of : Profile → List ℕ
smalls_of p = p.max_level ∷ p.skip_slices_from ∷ p.power ∷ le 8 p.pin_level.level

-- fifteen places that are on or off; the last was harq_stretch's: "Writing puts 0 there" (Change 11)
unfoldable pub on_off_places : Profile → List Bool
on_off_places p =
    p.lengths.burst_climb_db.set ∷ p.start_margin_db.set ∷ p.pin_level.set ∷ p.lengths.burst_adapt ∷ p.eff_snr
    ∷ p.goodput
    ∷ p.harq ∷ p.pick_family ∷ p.smooth_target ∷ p.hold_by_goodput ∷ p.slice_slots ∷ p.merge_pieces ∷ p.cue
    ∷ p.harq_partial ∷ false ∷ []

unfoldable pub options_of : Profile → List ℕ
options_of p =
    packed 8 (map bits64 (doubles p)) ++
    (packed 4 (whole_numbers p) ++ (packed 4 (map bits32 (singles p)) ++ (smalls_of p ++ map flag_byte (on_off_places p))))

-- ---- the file

abbrev pub levels_bytes : ℕ
levels_bytes = 408

abbrev pub waves_bytes : ℕ
waves_bytes = 48

abbrev pub thresholds_bytes : ℕ
thresholds_bytes = 144

abbrev pub options_bytes : ℕ
options_bytes = 142

abbrev pub card_bytes : ℕ
card_bytes = 751

abbrev pub section : List ℕ → List ℕ
section bs = le 2 (length bs) ++ bs

-- "Writing makes version 1"
unfoldable pub card_of : Profile → List ℕ
card_of p = 1 ∷ (section (levels_of p.air) ++ (section (waves_of p.air) ++ (section (thresholds_of p) ++ section (options_of p))))

-- ---- read, where the counts agree

abbrev pub card_double : List ℕ → ℕ → Float
card_double bs i = of_bits binary64 (at 8 bs i)

abbrev pub card_single : List ℕ → ℕ → Float
card_single bs i = of_bits binary32 (at 4 bs i)

-- one of the fifteen places
abbrev pub place_at : List ℕ → ℕ → ℕ
place_at os i = get_or os (127 + i) 0

abbrev pub card_flag : List ℕ → ℕ → Bool
card_flag os i = eqb (place_at os i) 1

-- an optional dB value: its place, and the value beside it
abbrev pub option_at : List ℕ → ℕ → ℕ → MaybeDb
option_at os i j = record { set = card_flag os i; db = card_single os j }

abbrev pub pin_in : List ℕ → MaybeLevel
pin_in os = record { set = card_flag os 2; level = at 8 os 119 }

unfoldable pub air_in : List ℕ → List ℕ → List ℕ → Air
air_in ls ws os =
    record {
      slot_bits = numbers_at 4 17 ls 0;
      pre_s = map (of_bits binary64) (numbers_at 8 17 ls 68);
      rate = map (of_bits binary64) (numbers_at 8 17 ls 204);
      max_bits = numbers_at 4 17 ls 340;
      ack_s = map (of_bits binary64) (numbers_at 8 6 ws 0);
      cue_s = card_double os 0;
    }

unfoldable pub marks_in : List ℕ → ℕ → Marks
marks_in ts i = record { thresholds_db = map (of_bits binary32) (numbers_at 4 17 ts i); margin_db = card_single ts (i + 68) }

unfoldable pub codes_in : List ℕ → Harq
codes_in os = record { mother = at 4 os 72; ends = numbers_at 4 6 os 76 }

unfoldable pub lengths_in : List ℕ → Lengths
lengths_in os =
    record {
      max_burst_s = card_double os 8;
      max_burst_long_s = card_double os 16;
      burst_overhead = card_double os 24;
      turnaround_s = card_double os 32;
      burst_adapt = card_flag os 3;
      burst_steady_db = card_single os 100;
      burst_climb_db = option_at os 0 104;
    }

unfoldable pub holds_in : List ℕ → HoldTimes
holds_in os = record { fail_hold_s = card_double os 40; fail_hold_max_s = card_double os 48; loss_hold_s = card_double os 56 }

-- of levels, waves, thresholds and options
unfoldable pub profile_in : List ℕ → List ℕ → List ℕ → List ℕ → Profile
profile_in ls ws ts os =
    record {
      air = air_in ls ws os;
      short_bytes = at 4 os 64;
      long_bytes = at 4 os 68;
      codes = codes_in os;
      lengths = lengths_in os;
      hold_times = holds_in os;
      plain = marks_in ts 0;
      eff = marks_in ts 72;
      eff_snr = card_flag os 4;
      cue_below_db = card_single os 108;
      start_margin_db = option_at os 1 112;
      max_level = get_or os 116 0;
      skip_slices_from = get_or os 117 0;
      pin_level = pin_in os;
      goodput = card_flag os 5;
      power = get_or os 118 0;
      harq = card_flag os 6;
      pick_family = card_flag os 7;
      smooth_target = card_flag os 8;
      hold_by_goodput = card_flag os 9;
      slice_slots = card_flag os 10;
      merge_pieces = card_flag os 11;
      cue = card_flag os 12;
      harq_partial = card_flag os 13;
    }

-- the sections of version 1: what later versions add behind the options is passed over
abbrev pub levels_in : List ℕ → List ℕ
levels_in b = part b 3 levels_bytes

abbrev pub waves_in : List ℕ → List ℕ
waves_in b = part b 413 waves_bytes

abbrev pub thresholds_in : List ℕ → List ℕ
thresholds_in b = part b 463 thresholds_bytes

abbrev pub options_in : List ℕ → List ℕ
options_in b = part b 609 options_bytes

abbrev pub card_profile : List ℕ → Profile
card_profile b = profile_in (levels_in b) (waves_in b) (thresholds_in b) (options_in b)

-- ---- the refusals

-- a refusal's number
abbrev pub number_of : Refusal → ℕ
number_of OutOfRange = 1
number_of ShortOverLong = 2
number_of BadVersion = 13
number_of BadLength = 14
number_of HarqStretch = 18

-- 0, or the refusal's number
abbrev pub told : {A : Type 0} → Result A Refusal → ℕ
told (Ok a) = 0
told (Err r) = number_of r

-- 13: "a version byte of 0 or above 15"; an empty file has none
unfoldable pub version_bad : List ℕ → Bool
version_bad [] = false
version_bad (v ∷ b) = eqb v 0 || ltb 15 v

-- the options' count: fixed in version 1; "in later versions only the options section may be longer, at its end"
abbrev pub options_ok : ℕ → ℕ → Bool
options_ok v n = cond (eqb v 1) (eqb n options_bytes) (leb options_bytes n)

-- 14: "an empty file, or a count that doesn't agree with the version or the file's length"; "the sections fill the file exactly"
unfoldable pub counts_agree : List ℕ → Bool
counts_agree b =
    all (eqb (at 2 b 1) levels_bytes ∷ eqb (at 2 b 411) waves_bytes ∷ eqb (at 2 b 461) thresholds_bytes
    ∷ options_ok (get_or b 0 0) (at 2 b 607) ∷ eqb (length b) (609 + at 2 b 607) ∷ [])

-- 1: a place that is neither on nor off, or what document 01's ranges refuse
abbrev pub place_ok : List ℕ → ℕ → Bool
place_ok os i = leb (place_at os i) 1

unfoldable pub places_ok : List ℕ → Bool
places_ok os = every (place_ok os) (upto 0 15)

-- the place that was harq_stretch's
abbrev pub stretch_place : List ℕ → ℕ
stretch_place os = place_at os 14

-- 18: "a file of version 2 or later whose place for it isn't 0" (Change 11)
abbrev pub stretch_later : ℕ → List ℕ → Bool
stretch_later v os = ltb 1 v && not (eqb (stretch_place os) 0)

-- "Reading refuses a version byte of 0 or above 15 with 13, then an empty file, or a count .. with 14,
unfoldable pub file_refusal : List ℕ → ℕ
file_refusal b = cond (version_bad b) 13 (cond (not (counts_agree b)) 14 0)

-- then what 1 and 2 refuse"; 18 "after 14": version, options and profile
unfoldable pub content_refusal : ℕ → List ℕ → Profile → ℕ
content_refusal v os p = cond (stretch_later v os) 18 (cond (not (places_ok os && in_range p)) 1 (cond (not (in_order p)) 2 0))

unfoldable pub read_refusal : List ℕ → ℕ
read_refusal b = cond (eqb (file_refusal b) 0) (content_refusal (get_or b 0 0) (options_in b) (card_profile b)) (file_refusal b)

-- "refuses by 1 and 2, then by 14 an output shorter than the file"
unfoldable pub write_refusal : Profile → ℕ → ℕ
write_refusal p n = cond (not (in_range p)) 1 (cond (not (in_order p)) 2 (cond (ltb n card_bytes) 14 0))

-- ---- the calls

-- what an answer says to one who has the profile `before`: the number, the profile, and whether harq_stretch was on
abbrev pub answered : Result Taken Refusal → Profile → ℕ × Profile × Bool
answered (Ok f) before = (0, f.profile, f.stretched)
answered (Err r) before = (number_of r, before, false)

-- the number; the profile: `before`, which was handed in, where the file is refused; and whether harq_stretch was on: "read with it off, and
-- that reading alone says so" (Change 11)
unfoldable pub read_of : List ℕ → Profile → ℕ × Profile × Bool
read_of b before =
    let good = eqb (read_refusal b) 0 in (read_refusal b, cond good (card_profile b) before, good && eqb (stretch_place (options_in b)) 1)

-- the number, and every byte of the output: "what lies past the bytes written is kept"
unfoldable pub write_of : Profile → List ℕ → ℕ × List ℕ
write_of p out = (write_refusal p (length out), cond (eqb (write_refusal p (length out)) 0) (overwrite out 0 (card_of p)) out)
