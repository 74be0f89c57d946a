-- The ladder of level.rs by level number, and what station.rs reckons from it (document 01, module 1). Definitions only.
use Rattle.std.specs.Prelude.{Bool, true, false, cond, not, ◌&&◌, ◌||◌, List, [], ◌∷◌, ℕ, leb, eqb, get_or, Float}
use Rattle.std.specs.Float.{nan, binary32}
use Rattle.std.specs.Float.Ieee.{of_bits}
use Rattle.laws.specs.Steps.{highest}

-- LADDER[l].wave, by `wave_rank`: 0 lifeline, 1 MFSK R0, 2 MFSK R1, 3 OFDM slice, 4 OFDM long, 5 OFDM normal
abbrev pub waves : List ℕ
waves = 1 ∷ 2 ∷ 2 ∷ 2 ∷ 2 ∷ 3 ∷ 3 ∷ 4 ∷ 4 ∷ 5 ∷ 5 ∷ 5 ∷ 5 ∷ 5 ∷ 5 ∷ 5 ∷ 5 ∷ []

unfoldable pub wave_rank : ℕ → ℕ
wave_rank l = get_or waves l 0

-- LADDER[l].rate: 0 is 1/4, 1 is 1/3, 2 is 1/2, 3 is 2/3, 4 is 3/4, 5 is 5/6
abbrev pub rates : List ℕ
rates = 0 ∷ 0 ∷ 1 ∷ 2 ∷ 3 ∷ 1 ∷ 2 ∷ 0 ∷ 2 ∷ 1 ∷ 2 ∷ 3 ∷ 3 ∷ 3 ∷ 4 ∷ 4 ∷ 5 ∷ []

unfoldable pub rate_of : ℕ → ℕ
rate_of l = get_or rates l 0

-- LADDER[l].frame == FrameSize::Long
abbrev pub longs : List Bool
longs = false ∷ false ∷ false ∷ false ∷ false ∷ true ∷ true ∷ true ∷ true ∷ true ∷ true ∷ true ∷ true ∷ true ∷ true ∷ true ∷ true ∷ []

unfoldable pub long_frame : ℕ → Bool
long_frame l = get_or longs l false

-- f32 values, by their bits
abbrev pub floats : List ℕ → List Float
floats [] = []
floats (n ∷ ns) = of_bits binary32 n ∷ floats ns

-- THRESHOLDS_DB, EFF_THRESHOLDS_DB, AIR_MEAN_DB, AIR_MEAN_TD_DB
abbrev pub thresholds : List Float
thresholds =
    floats (0xc1400000 ∷ 0xc1100000 ∷ 0xc1000000 ∷ 0xc0d00000 ∷ 0xc0900000 ∷ 0xc0400000 ∷ 0xbf000000 ∷ 0x40000000 ∷ 0x40d00000 ∷ 0x40200000 ∷ 0x40b00000 ∷ 0x41000000 ∷ 0x41400000 ∷ 0x41580000 ∷ 0x41780000 ∷ 0x41a40000 ∷ 0x41bc0000 ∷ [])

abbrev pub eff_thresholds : List Float
eff_thresholds =
    floats (0xc1500000 ∷ 0xc1300000 ∷ 0xc124cccd ∷ 0xc10e6666 ∷ 0xc0eccccd ∷ 0xc0a00000 ∷ 0xc0200000 ∷ 0xbf000000 ∷ 0x40733333 ∷ 0x00000000 ∷ 0x40400000 ∷ 0x40a00000 ∷ 0x41180000 ∷ 0x41300000 ∷ 0x41400000 ∷ 0x41880000 ∷ 0x41980000 ∷ [])

abbrev pub air_means : List Float
air_means =
    floats (0x00000000 ∷ 0x00000000 ∷ 0x00000000 ∷ 0x00000000 ∷ 0x00000000 ∷ 0xc02ccccd ∷ 0xc0200000 ∷ 0xc019999a ∷ 0xc019999a ∷ 0xc0200000 ∷ 0xc0200000 ∷ 0xc0200000 ∷ 0xc059999a ∷ 0xc0a66666 ∷ 0xc0a33333 ∷ 0xc0e9999a ∷ 0xc0e9999a ∷ [])

abbrev pub air_means_td : List Float
air_means_td =
    floats (0x00000000 ∷ 0x00000000 ∷ 0x00000000 ∷ 0x00000000 ∷ 0x00000000 ∷ 0xbf4ccccd ∷ 0xbf4ccccd ∷ 0xbf4ccccd ∷ 0xbf8ccccd ∷ 0xbf4ccccd ∷ 0xbf4ccccd ∷ 0xbfa66666 ∷ 0xbfcccccd ∷ 0xc04ccccd ∷ 0xc0600000 ∷ 0xc0c00000 ∷ 0xc0a33333 ∷ [])

-- AIR_MEAN_DB[l] and AIR_MEAN_TD_DB[l]
unfoldable pub air_mean : ℕ → Float
air_mean l = get_or air_means l nan

unfoldable pub air_mean_td : ℕ → Float
air_mean_td l = get_or air_means_td l nan

-- `matches!(w, Wave::Ofdm(_))`
abbrev pub ofdm : ℕ → Bool
ofdm w = leb 3 w

-- guard_ms of gear.rs, in whole ms
unfoldable pub guard_ms : ℕ → ℕ
guard_ms w = cond (ofdm w) (cond (eqb w 4) 10 4) 0

-- `step` of climb_above: a slice level, or MFSK at a rate other than 1/4
unfoldable pub is_step : ℕ → Bool
is_step l = eqb (wave_rank l) 3 || (not (ofdm (wave_rank l)) && not (eqb (rate_of l) 0))

-- top_level_in: the highest level whose wave is no faster than w, else FLOOR
unfoldable pub top_level_in : ℕ → ℕ
top_level_in w = highest (λ l. leb (wave_rank l) w) 17 0
