-- The listing by document 01's P11: plain thresholds, margin 0, max level 16, no power table. By computation. Assumes nothing.
use Prim.Native.Nat.{ℕ}
use mathlib.Core.Path.{◌≡◌, refl}
use mathlib.Core.Bool.{Bool, true, false}
use mathlib.Core.List.{List, [], ◌∷◌}
use lib.Ieee.{binary32, of_bits, of_int, add, sub, le, lt, is_nan}
use Rattle.laws.specs.Span.{upto, first}
use Rattle.laws.specs.Steps.{highest}
use Rattle.level.specs.Ladder.{thresholds, wave_rank}
use Rattle.config.specs.Entries.{entry_at}
use Rattle.report.specs.Report.{snr_from_q}
use Rattle.levels.specs.Usable.{air_db, family_ok, enough, level_for}
use Rattle.reachable.specs.Reachable.{Reached, chosen_by, lowest_of, given, reachable}

-- level_for of P11, with echoes or without
abbrev p11 : Bool → ℕ → ℕ
p11 echo =
    chosen_by (record { thresholds_db = thresholds; margin_db = of_bits binary32 0 }) 0 (record { echo = echo; doppler = false }) 16

abbrev told : List Reached → List ℕ
told [] = []
told (x ∷ xs) = x.level ∷ x.q ∷ told xs

pub record Cases : Type 0 where
  -- "6.0 dB gives 10, .. -20 gives 0"
  pub ten : p11 false 30 ≡ 10
  pub floor : p11 false 4 ≡ 0
  -- 2 to 6 dB: 7 (2.0), 9 (2.5), 10 (5.5). Never 8 (6.5), whose neighbours are enough first
  pub some : told (reachable (p11 false) 26 30) ≡ 7 ∷ 26 ∷ 9 ∷ 27 ∷ 10 ∷ 30 ∷ []
  -- a range of one
  pub one : told (reachable (p11 false) 27 27) ≡ 9 ∷ 27 ∷ []
  -- with echoes only the long guard is left above MFSK, so there is 8, from 7 dB on
  pub echoes : told (reachable (p11 true) 26 32) ≡ 7 ∷ 26 ∷ 8 ∷ 31 ∷ []
  -- every byte
  pub every : told (reachable (p11 false) 0 255)
      ≡ 0 ∷ 0 ∷ 1 ∷ 15 ∷ 2 ∷ 16 ∷ 3 ∷ 18 ∷ 4 ∷ 20 ∷ 5 ∷ 21 ∷ 6 ∷ 24 ∷ 7 ∷ 26 ∷ 9 ∷ 27 ∷ 10 ∷ 30
      ∷ 11 ∷ 32 ∷ 12 ∷ 36 ∷ 13 ∷ 38 ∷ 14 ∷ 40 ∷ 15 ∷ 45 ∷ 16 ∷ 48 ∷ []

pub cases : Cases
unfolding level_for enough family_ok air_db entry_at snr_from_q of_bits of_int add sub le lt is_nan highest wave_rank lowest_of given upto first
cases = record { ten = refl; floor = refl; some = refl; one = refl; echoes = refl; every = refl }
