-- The default profile: the values of `Config::new` (config.rs) and document 01's reckoned harq numbers. What the files lack, the. Follows the code or serves proofs: nothing here has to be believed.
-- air, is chosen (docs/DECISIONS.md). Floats are given by their bits. Definitions only.
use Rattle.std.specs.Prelude.{true, false, List, [], ◌∷◌, ℕ, Float}
use Rattle.std.specs.Float.{binary32, binary64}
use Rattle.std.specs.Float.Ieee.{of_bits}
use Rattle.level.specs.Ladder.{thresholds, eff_thresholds}
use Rattle.harq.specs.declared.Harq.{Harq}
use Rattle.config.specs.declared.Air.{Air}
use Rattle.config.specs.declared.Lengths.{Lengths}
use Rattle.config.specs.declared.Profile.{Profile}

abbrev doubles_of : List ℕ → List Float
doubles_of [] = []
doubles_of (n ∷ ns) = of_bits binary64 n ∷ doubles_of ns

-- slot bits; seconds before the data; bits per second; no limit on a burst's bits; seconds of a short ack; a cue of 1.12 s
abbrev pub new_air : Air
new_air =
    record {
      slot_bits = 1024 ∷ 1024 ∷ 770 ∷ 515 ∷ 385 ∷ 4320 ∷ 2880 ∷ 5760 ∷ 2880 ∷ 4320 ∷ 2880 ∷ 2160 ∷ 2160 ∷ 2160 ∷ 1920 ∷ 1920 ∷ 1728 ∷ [];
      pre_s = doubles_of (0x4004cccccccccccd ∷ 0x3feccccccccccccd ∷ 0x3feccccccccccccd ∷ 0x3feccccccccccccd ∷ 0x3feccccccccccccd ∷ 0x3fe999999999999a ∷ 0x3fe999999999999a ∷ 0x3fe0000000000000 ∷ 0x3fe0000000000000 ∷ 0x3fd999999999999a ∷ 0x3fd999999999999a ∷ 0x3fd999999999999a ∷ 0x3fd999999999999a ∷ 0x3fd999999999999a ∷ 0x3fd999999999999a ∷ 0x3fd999999999999a ∷ 0x3fd999999999999a ∷ []);
      rate = doubles_of (0x4044000000000000 ∷ 0x4062c00000000000 ∷ 0x4062c00000000000 ∷ 0x4062c00000000000 ∷ 0x4062c00000000000 ∷ 0x4087700000000000 ∷ 0x4087700000000000 ∷ 0x409f400000000000 ∷ 0x409f400000000000 ∷ 0x40a5e00000000000 ∷ 0x40a5e00000000000 ∷ 0x40a5e00000000000 ∷ 0x40b0680000000000 ∷ 0x40b5e00000000000 ∷ 0x40b5e00000000000 ∷ 0x40c0680000000000 ∷ 0x40c0680000000000 ∷ []);
      max_bits = 4294967295 ∷ 4294967295 ∷ 4294967295 ∷ 4294967295 ∷ 4294967295 ∷ 4294967295 ∷ 4294967295 ∷ 4294967295 ∷ 4294967295 ∷ 4294967295 ∷ 4294967295 ∷ 4294967295 ∷ 4294967295 ∷ 4294967295 ∷ 4294967295 ∷ 4294967295 ∷ 4294967295 ∷ [];
      ack_s = doubles_of (0x4028000000000000 ∷ 0x400999999999999a ∷ 0x3ff199999999999a ∷ 0x3feccccccccccccd ∷ 0x3fe3333333333333 ∷ 0x3fe0000000000000 ∷ []);
      cue_s = of_bits binary64 0x3ff1eb851eb851ec;
    }

abbrev pub new_harq : Harq
new_harq = record { mother = 5760; ends = 5760 ∷ 4320 ∷ 2880 ∷ 2160 ∷ 1920 ∷ 1728 ∷ [] }

-- 8 s, 32 s, 0.12, 0.3 s, 3 dB, none
abbrev pub new_lengths : Lengths
new_lengths =
    record {
      max_burst_s = of_bits binary64 0x4020000000000000;
      max_burst_long_s = of_bits binary64 0x4040000000000000;
      burst_overhead = of_bits binary64 0x3fbeb851eb851eb8;
      turnaround_s = of_bits binary64 0x3fd3333333333333;
      burst_adapt = true;
      burst_steady_db = of_bits binary32 0x40400000;
      burst_climb_db = record { set = false; db = of_bits binary32 0 };
    }

-- frames of 32 and 180 bytes; holds of 30, 480 and 15 s; margins of -1 and 0 dB; cues below 7 dB; a start margin of 3 dB
abbrev pub new_profile : Profile
new_profile =
    record {
      air = new_air;
      short_bytes = 32;
      long_bytes = 180;
      codes = new_harq;
      lengths = new_lengths;
      hold_times = record { fail_hold_s = of_bits binary64 0x403e000000000000; fail_hold_max_s = of_bits binary64 0x407e000000000000; loss_hold_s = of_bits binary64 0x402e000000000000 };
      plain = record { thresholds_db = thresholds; margin_db = of_bits binary32 0xbf800000 };
      eff = record { thresholds_db = eff_thresholds; margin_db = of_bits binary32 0x00000000 };
      eff_snr = true;
      cue_below_db = of_bits binary32 0x40e00000;
      start_margin_db = record { set = true; db = of_bits binary32 0x40400000 };
      max_level = 16;
      skip_slices_from = 8;
      pin_level = record { set = false; level = 0 };
      goodput = true;
      power = 0;
      harq = true;
      pick_family = true;
      smooth_target = true;
      hold_by_goodput = true;
      slice_slots = true;
      merge_pieces = true;
      cue = true;
      harq_partial = true;
    }
