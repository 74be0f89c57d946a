-- What a connect answer and a turn do to the gear (sender.rs, `sender_rx`, its ConnAck and Turn arms). Definitions only.
use Rattle.std.specs.Prelude.{ℕ, min, Bool, false, cond, Float}
use Rattle.std.specs.Float.{binary32}
use Rattle.std.specs.Float.Ieee.{sub}
use Rattle.level.specs.Ladder.{top_level_in}
use Rattle.config.specs.declared.Profile.{Profile}
use Rattle.report.specs.declared.ChanClass.{ChanClass}
use Rattle.gear.specs.declared.Gear.{Gear}
use Rattle.gear.specs.Goodput.{marks_of}
use Rattle.gear.specs.Setters.{some_db, with_level, with_burst, with_peer}
use Rattle.levels.specs.Usable.{air_db, heeded, level_for}
use Rattle.gear.specs.declared.Outcome.{Outcome}
use Rattle.gear.specs.Judging.{heeded_class, capped, on_ack}

-- with start_margin_db what the report less it allows, else FLOOR, even when pinned
unfoldable pub start_level : Profile → Gear → Float → Float → ℕ
start_level p g aim now =
    cond p.start_margin_db.set
    (capped p g (level_for (marks_of p) p.power (heeded_class p g) p.max_level (sub binary32 aim p.start_margin_db.db)) now)
    0

-- the ConnAck arm
unfoldable pub connected : Profile → Gear → ChanClass → Bool → Float → Float → Gear
connected p g class cue snr now =
    let aim = sub binary32 snr (air_db p.power 0) in
    let h = with_peer g cue (some_db aim) class (level_for (marks_of p) p.power (heeded p.pick_family class) p.max_level aim) in
    with_level h (start_level p h aim now)

-- level.min(top_level_in(wave)), and burst_s = max_burst_s
unfoldable pub at_turn : Profile → Gear → ℕ → Gear
at_turn p g w = with_burst (with_level g (min g.level (top_level_in w))) p.lengths.max_burst_s

-- the outstanding burst under another number
abbrev pub unmatched_outcome : Outcome → Outcome
unmatched_outcome o = record { empty = false; fresh = o.fresh; matched = false; sent = o.sent; got = 0 }

-- the Turn arm
unfoldable pub on_turn : Profile → Gear → Outcome → Float → ℕ → Float → Gear
on_turn p g o snr w now = at_turn p (cond o.empty g (on_ack p g (unmatched_outcome o) snr now)) w
