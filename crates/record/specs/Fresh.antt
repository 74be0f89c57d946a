-- A fresh sender (`Station::new`, station.rs; docs/CALLS.md says what `state` shows of it). Definitions only.
use Rattle.std.specs.Prelude.{true, false, ℕ, Float, replicate}
use Rattle.std.specs.Float.{nan, inf, binary32, binary64}
use Rattle.std.specs.Float.Ieee.{of_int}
use Rattle.ieee.specs.Range.{w32, w64}
use Rattle.gear.specs.declared.Gear.{Gear}
use Rattle.gear.specs.Setters.{no_db}
use Rattle.record.specs.declared.Link.{Link}
use Rattle.record.specs.declared.Counts.{Counts}
use Rattle.record.specs.declared.AtPeer.{AtPeer}
use Rattle.record.specs.declared.LastBurst.{LastBurst}
use Rattle.record.specs.declared.Sender.{Sender}
use Rattle.limits.specs.Limits.{max_slots}

abbrev pub levels : ℕ
levels = 17

-- minus infinity: never
abbrev never : Float
never = inf true

-- `burst_s`: 0 stands for the profile's max_burst_s (`burst_seconds`)
abbrev pub fresh_gear : Gear
fresh_gear =
    record {
      level = 0;
      target = 0;
      burst_s = w64 0;
      aim_db = no_db;
      last_report_db = no_db;
      snr_reports = record { count = 0; a = w32 0; b = w32 0; c = w32 0 };
      peer_class = record { echo = false; doppler = false };
      cue = false;
      tries = record { tried = replicate levels false; success = replicate levels (w32 0); success_at = replicate levels never; fails = replicate levels 0 };
      holds = record { blocked_until = replicate levels never; hold_all = replicate levels true };
    }

-- `last_time` counts from 0, the earliest time that a reply may bear
abbrev pub fresh_link : Link
fresh_link =
    record {
      connected = false;
      awaiting = false;
      session = 0;
      last_time = w64 0;
      burst_id = 0;
      heard = false;
      peer_heard = 0;
      peer_slot = 0;
      peer_doppler_hz = nan;
      peer_wants_turn = false;
      peer_wants_disc = false;
      peer_wave = 1;
    }

abbrev pub no_counts : Counts
no_counts = record { next_offset = 0; waiting = 0; flying = 0; pieces = 0; bytes_acked = 0; airtime_ms = 0 }

abbrev pub no_held : AtPeer
no_held = record { off = replicate max_slots 0; bits = replicate max_slots 0; n = 0; rest = 0 }

abbrev pub no_sent : LastBurst
no_sent = record { off = replicate max_slots 0; bits = replicate max_slots 0; held = replicate max_slots 0; n = 0 }

abbrev pub fresh : Sender
fresh = record { gear = fresh_gear; link = fresh_link; counts = no_counts; at_peer = no_held; last_burst = no_sent }
