-- An ack that is awaited (`ack_in` of sender.rs, `on_ack` of gear.rs; document 01, module 5). Definitions only.
use Rattle.std.specs.Prelude.{List, Bool, cond, ◌&&◌, ℕ, Float}
use Rattle.level.specs.Ladder.{wave_rank, long_frame}
use Rattle.harq.specs.Held.{h_max}
use Rattle.config.specs.declared.Profile.{Profile}
use Rattle.gear.specs.declared.Gear.{Gear}
use Rattle.gear.specs.Judging.{on_ack}
use Rattle.ledger.specs.Reply.{Reply}
use Rattle.ledger.specs.Ledger as L
use Rattle.ledger.specs.Ledger.{settles}
use Rattle.record.specs.Setters.{with_gear, with_link, with_wave}
use Rattle.record.specs.View.{view, store, store_area}
use Rattle.record.specs.declared.Sender.{Sender}
use Rattle.settle.specs.Outcomes.{outcome_of}

-- ---- acks

-- `keep` of `settle_burst`
abbrev pub keeps : Profile → Gear → Bool → Bool
keeps p g stored = stored && (p.harq && long_frame g.level)

-- `ack_in`: an ack that is awaited, with the bits r. Where it settles the burst, the wave of the held pieces is this level's
unfoldable pub ack_in : Profile → Reply → Bool → Float → Float → Sender → List ℕ → Sender × List ℕ
ack_in p r stored snr now s a =
    let before = view s a in
    let after = L.hear_ack (h_max p.codes) r (keeps p s.gear stored) before in
    let wave = cond (settles r before) (wave_rank s.gear.level) s.link.peer_wave in
    (store after (with_link (with_gear s (on_ack p s.gear (outcome_of r before) snr now)) (with_wave s.link wave)), store_area after a)
