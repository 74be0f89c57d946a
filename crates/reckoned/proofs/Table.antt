-- Document 01's reckoned examples marked P, and that of a hold, as one table: a field for each, proved from the definitions by computation.
-- Assumes nothing.
use mathlib.Core.Path.{◌≡◌, refl}
use mathlib.Core.Bool.{true, false}
use lib.Ieee.{Float, binary32, binary64, of_bits, add, mul, le, lt, is_nan}
use mathlib.Core.List.{[], ◌∷◌}
use Prim.Native.Nat.{ℕ, ◌+◌, ◌-◌, ◌*◌}
use Rattle.laws.specs.Steps.{highest}
use Rattle.float.specs.Pick.{min_f}
use Rattle.exp.specs.Hold.{hold_of}
use Rattle.level.specs.Ladder.{thresholds, wave_rank, top_level_in}
use Rattle.header.specs.Header.{air_code, user_bits, next_burst_id}
use Rattle.harq.specs.Held.{above, smallest, up_to, increment_of, start_of, partial_field, check_bits, burst_check_bits}
use Rattle.harq.specs.declared.Harq.{Harq}
use Rattle.config.specs.Entries.{entry_at}
use Rattle.levels.specs.Usable.{air_db, family_ok, enough, level_for}
use Rattle.ledger.specs.Ledger.{split, merge_inflight}
use Rattle.ledger.proofs.Examples.{spans, piece}

-- "Rate ends 5760, 4320, 2880, 2160, 1920, 1728, mother 5760, slot 2880."
abbrev pub codes : Harq
codes = record { mother = 5760; ends = 5760 ∷ 4320 ∷ 2880 ∷ 2160 ∷ 1920 ∷ 1728 ∷ [] }

-- `level_for` of P11 at a dB given by its bits
abbrev pub level_at : ℕ → ℕ
level_at db =
    level_for (record { thresholds_db = thresholds; margin_db = of_bits binary32 0 }) 0 (record { echo = false; doppler = false }) 16 (of_bits binary32 db)

-- an f64 given by its bits
abbrev pub bits64 : ℕ → Float
bits64 = of_bits binary64

-- the hold of 30 s after so many failures, with no others, and a cap
abbrev pub hold_after : ℕ → Float → Float
hold_after fails cap = hold_of (bits64 0x403e_0000_0000_0000) (fails - 1) cap

pub record Cases : Type 0 where
  -- P1 held 2880: increment 1440
  pub p1 : increment_of codes 2880 2880 ≡ 1440
  -- P2 held 5760: increment 2880, start 0
  pub p2 : (increment_of codes 5760 2880 ≡ 2880) × (start_of codes 5760 ≡ 0)
  -- P3 field for 3 of 3 is 0, 3 of 5 is 4, 62 of 64 is 63
  pub p3 : (partial_field 3 3 ≡ 0) × (partial_field 3 5 ≡ 4) × (partial_field 62 64 ≡ 63)
  -- P4 stored 5, field 4: check bits 1
  pub p4 : burst_check_bits 5 4 ≡ 1
  -- P5 air_code: 4 gives 4, 5 gives 2, 16 gives 13
  pub p5 : (air_code 4 ≡ 4) × (air_code 5 ≡ 2) × (air_code 16 ≡ 13)
  -- P6 level 5, session 9, burst 2, check bits 1: user 24722
  pub p6 : user_bits 5 9 (2 + 4 * 1) ≡ 24722
  -- P7 50 bytes at 100, payload 22: 100/22, 122/22, 144/6
  pub p7 : spans (split 22 (piece 100 50 ∷ [])) ≡ 100 ∷ 22 ∷ 122 ∷ 22 ∷ 144 ∷ 6 ∷ []
  -- P8 0/40, 40/40, 80/40, at most 100: 0/80, 80/40
  pub p8 : spans (merge_inflight [] 100 (piece 0 40 ∷ piece 40 40 ∷ piece 80 40 ∷ [])) ≡ 0 ∷ 80 ∷ 80 ∷ 40 ∷ []
  -- P9 with 40 held: unchanged
  pub p9 : spans (merge_inflight (40 ∷ []) 100 (piece 0 40 ∷ piece 40 40 ∷ piece 80 40 ∷ [])) ≡ 0 ∷ 40 ∷ 40 ∷ 40 ∷ 80 ∷ 40 ∷ []
  -- P10 top_level_in for waves of rank 0 to 5: 0, 0, 4, 6, 8, 16
  pub p10 : (top_level_in 0 ≡ 0) × (top_level_in 1 ≡ 0) × (top_level_in 2 ≡ 4) × (top_level_in 3 ≡ 6) × (top_level_in 4 ≡ 8) × (top_level_in 5 ≡ 16)
  -- P11 plain thresholds, margin 0, max level 16, no power table, every family: 6.0 dB gives 10, 2.5 gives 9, -20 gives 0
  pub p11 : (level_at 0x40c0_0000 ≡ 10) × (level_at 0x4020_0000 ≡ 9) × (level_at 0xc1a0_0000 ≡ 0)
  -- P12 number 3, last heard 0: next is 1
  pub p12 : next_burst_id 3 true 0 ≡ 1
  -- Hold 30 s, third failure, no others: 120 s (capped at 1,000,000); capped at 100: 100
  pub hold : (hold_after 3 (bits64 0x412e_8480_0000_0000) ≡ bits64 0x405e_0000_0000_0000) × (hold_after 3 (bits64 0x4059_0000_0000_0000) ≡ bits64 0x4059_0000_0000_0000)

pub cases : Cases
unfolding level_for enough family_ok air_db entry_at min_f of_bits add mul le lt is_nan highest wave_rank air_code user_bits top_level_in next_burst_id above smallest up_to increment_of start_of partial_field check_bits burst_check_bits
cases =
    record {
      p1 = refl;
      p2 = (refl, refl);
      p3 = (refl, refl, refl);
      p4 = refl;
      p5 = (refl, refl, refl);
      p6 = refl;
      p7 = refl;
      p8 = refl;
      p9 = refl;
      p10 = (refl, refl, refl, refl, refl, refl);
      p11 = (refl, refl, refl);
      p12 = refl;
      hold = (refl, refl);
    }
