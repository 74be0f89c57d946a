-- Acks one after the other. Follows the code or serves proofs: nothing here has to be believed.
use Rattle.std.specs.Prelude.{ℕ, true, false, replicate, Float}
use Rattle.std.specs.Float.{binary32, binary64}
use Rattle.std.specs.Float.Ieee.{of_bits}
use Rattle.laws.specs.Steps.{steps}
use Rattle.defaults.specs.Default.{new_profile}
use Rattle.gear.specs.declared.Gear.{Gear}
use Rattle.gear.specs.declared.Outcome.{Outcome}
use Rattle.gear.specs.Judging.{on_ack}

-- a gear at level 9 that has tried every level, each with a share of 1 and one failure, and holds none off
abbrev pub tried : Gear
tried =
    record {
      level = 9;
      target = 9;
      burst_s = of_bits binary64 0x4020000000000000;
      aim_db = record { set = false; db = of_bits binary32 0 };
      last_report_db = record { set = false; db = of_bits binary32 0 };
      snr_reports = record { count = 0; a = of_bits binary32 0; b = of_bits binary32 0; c = of_bits binary32 0 };
      peer_class = record { echo = false; doppler = false };
      cue = true;
      tries = record { tried = replicate 17 true; success = replicate 17 (of_bits binary32 0x3f800000); success_at = replicate 17 (of_bits binary64 0); fails = replicate 17 1 };
      holds = record { blocked_until = replicate 17 (of_bits binary64 0); hold_all = replicate 17 true };
    }

-- nine frames of ten came through
abbrev pub nine : Outcome
nine = record { empty = false; fresh = true; matched = true; sent = 10; got = 9 }

unfoldable pub acks : ℕ → Float → Float → Gear
acks n snr now = steps (λ (i : ℕ) (g : Gear). on_ack new_profile g nine snr now) n tried
