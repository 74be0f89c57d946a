-- Document 01's sound record, as tests and as facts: what follows the code or serves proofs; nothing here has to be believed.
use Rattle.std.specs.Prelude.{List, ◌≡◌, true, false, ℕ, ◌<◌, ◌≤◌, T, length, get_or}
use Rattle.std.specs.Float.{nan}
use Rattle.std.specs.Float.Ieee.{le, lt, neg}
use Rattle.ieee.specs.Range.{In, w32, w64}
use Rattle.config.specs.declared.Profile.{Profile}
use Rattle.gear.specs.declared.Gear.{Gear}
use Rattle.gear.specs.BurstLength.{burst_ok}
use Rattle.ledger.specs.Sound.{Sound}
use Rattle.area.specs.Layout.{area_bytes}
use Rattle.area.specs.Table.{rows_from, total}
use Rattle.record.specs.Profiles.{sizes_of}
use Rattle.record.specs.View.{view}
use Rattle.record.specs.declared.Link.{Link}
use Rattle.record.specs.declared.Sender.{Sender}
use Rattle.soundness.specs.Soundness.{max_doppler}
use Rattle.limits.specs.Limits.{max_slots, max_number, max_pieces}

pub record SoundGear (g : Gear) : Type 0 where
  pub level : g.level < 17
  pub target : g.target < 17
  pub burst : T (burst_ok g.burst_s)
  pub aim : g.aim_db.set ≡ true → In (neg (w32 100)) (w32 308) g.aim_db.db
  pub last : g.last_report_db.set ≡ true → In (neg (w32 100)) (w32 308) g.last_report_db.db
  pub a : 3 ≤ g.snr_reports.count → In (neg (w32 100)) (w32 308) g.snr_reports.a
  pub b : 2 ≤ g.snr_reports.count → In (neg (w32 100)) (w32 308) g.snr_reports.b
  pub c : 1 ≤ g.snr_reports.count → In (neg (w32 100)) (w32 308) g.snr_reports.c
  pub shares : (k : ℕ) → k < 17 → get_or g.tries.tried k false ≡ true → In (w32 0) (w32 1) (get_or g.tries.success k nan)
  pub times : (k : ℕ) → k < 17 → T (le (get_or g.tries.success_at k nan) (w64 1000000000))
  pub ends : (k : ℕ) → k < 17 → T (le (get_or g.holds.blocked_until k nan) (w64 1001000000))

pub record SoundLink (k : Link) : Type 0 where
  pub time : T (le k.last_time (w64 1000000000))
  pub number : k.burst_id ≤ max_number
  pub heard : k.heard ≡ true → k.peer_heard ≤ max_number
  -- not a number is neither below nor above
  pub not_below : lt k.peer_doppler_hz (w32 0) ≡ false
  pub not_above : lt max_doppler k.peer_doppler_hz ≡ false

-- the ledger's part is `Sound` of what the record and the work area hold (crates/ledger/specs/Sound.antt); the record's counts go with its lists and rows
pub record SoundRecord (p : Profile) (s : Sender) (a : List ℕ) : Type 0 where
  pub area : area_bytes ≤ length a
  pub held : s.at_peer.n ≤ max_slots
  pub rest : s.at_peer.rest ≤ s.at_peer.n
  pub sent : s.last_burst.n ≤ max_slots
  pub pieces : s.counts.pieces ≤ max_pieces
  pub flying : total (rows_from a 0 s.counts.pieces) ≡ s.counts.flying
  pub ledger : Sound (sizes_of p) (view s a)
  pub gear : SoundGear s.gear
  pub link : SoundLink s.link
