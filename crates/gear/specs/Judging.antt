-- `on_ack`: what a reply does to the gear. Definitions only.
use Rattle.std.specs.Prelude.{ℕ, ◌+◌, ◌-◌, ◌/◌, min, max, Bool, true, false, cond, not, ◌&&◌, ◌==◌, from_bits, nat_eq, nat_le, nat_lt, slice_index, slice_index_or, Float}
use Rattle.std.specs.Float.{nan, binary32, binary64}
use Rattle.std.specs.Float.Ieee.{add, sub, mul, le, lt, eq}
use Rattle.ieee.specs.Range.{w32}
use Rattle.float.specs.Gear.{loss_of, loss_to_step_down, whole_loss}
use Rattle.exp.specs.Hold.{hold_of}
use Rattle.laws.specs.Span.{upto, every}
use Rattle.level.specs.Ladder.{wave_rank, is_step}
use Rattle.config.specs.declared.Profile.{Profile}
use Rattle.report.specs.declared.ChanClass.{ChanClass}
use Rattle.levels.specs.declared.memory.Tries.{Tries}
use Rattle.gear.specs.declared.Gear.{Gear}
use Rattle.gear.specs.declared.Outcome.{Outcome}
use Rattle.gear.specs.Setters.{some_db, with_level, with_burst, with_aim, with_tries, with_holds}
use Rattle.levels.specs.Usable.{air_db, heeded, family_ok, level_for, usable_below, climb_above, step_down}
use Rattle.levels.specs.Rates.{level_rate}
use Rattle.gear.specs.Goodput.{marks_of, cue_for, pick_by_goodput}
use Rattle.gear.specs.BurstLength.{adapted}
use Rattle.levels.specs.Memory.{pushed, aim_of, noted, failed, cleared, channel_failed, others, held_until}

-- CHANNEL_FAIL_DB
abbrev pub channel_fail : Float
channel_fail = from_bits binary32 0x4080_0000

abbrev pub heeded_class : Profile → Gear → ChanClass
heeded_class p g = heeded p.pick_family g.peer_class

-- `aim_snr` and the target: the report as a steady carrier would read it is kept, aimed by, and gives the target
unfoldable pub aimed : Profile → Gear → Float → Gear
aimed p g snr =
    let r = pushed g.snr_reports (sub binary32 snr (air_db p.power g.level)) in
    let aim = aim_of r p.smooth_target in
    with_aim g r (some_db aim) (level_for (marks_of p) p.power (heeded_class p g) p.max_level aim)

-- `usable_below`(l.min(target).min(max_level), now)
unfoldable pub capped : Profile → Gear → ℕ → Float → ℕ
capped p g l now = usable_below g.holds (heeded_class p g) p.pin_level (min (min l g.target) p.max_level) now

-- `!any_fresh && burst == burst_id`: a burst of increments only, that the peer heard, leaves shares, failures and holds alone
unfoldable pub increments_only : Profile → Gear → Float → Gear
increments_only p g now =
    let l = capped p g g.level now in
    cond (l == g.level) (with_level g l) (with_burst (with_level g l) p.lengths.max_burst_s)

-- a whole burst lost with SNR to spare at an OFDM level: the channel is to blame
unfoldable pub blamed : Profile → ℕ → Float → Bool
blamed p at snr = nat_le 3 (wave_rank at) && le (add binary32 (slice_index_or (marks_of p).thresholds_db at nan) channel_fail) snr

-- Gear::Goodput: the failures of level `at`, and `channel_failed`
unfoldable pub failures_counted : ℕ → Float → Bool → Float → Tries → Tries
failures_counted at loss channel now t =
    cond (lt whole_loss loss) (cond channel (channel_failed (failed t at) at now) (failed t at)) (cond (eq loss (w32 0)) (cleared t at) t)

-- Gear::Goodput: the failures, then `pick_by_goodput`
unfoldable pub by_goodput : Profile → ℕ → Float → Float → Float → Gear → Gear
by_goodput p at loss snr now g =
    let h = with_tries g (failures_counted at loss (blamed p at snr) now g.tries) in
    with_level h (pick_by_goodput p h h.aim_db.db now)

-- `worth_keeping`: level `at` still moves more than the level that a loss would step down to
unfoldable pub worth_keeping : Profile → Gear → ℕ → Float → Bool
worth_keeping p g at now =
    let lower = usable_below g.holds (heeded_class p g) p.pin_level (step_down (heeded_class p g) at false) now in
    p.hold_by_goodput && nat_le at g.target && nat_lt lower at
    && lt (level_rate p lower (cue_for p g lower)) (mul binary64 (slice_index_or g.tries.success at nan) (level_rate p at (cue_for p g at)))

-- `hold`: (fail_hold_s * 2f64.powi(fails - 1 + others)).min(fail_hold_max_s), with fails counted up by this burst
unfoldable pub fail_hold : Profile → Gear → ℕ → Bool → Float → Float
fail_hold p g at channel now =
    let n = min (slice_index g.tries.fails at + 1) 255 - 1 + cond channel (others g.holds at now) 0 in
    hold_of p.hold_times.fail_hold_s n p.hold_times.fail_hold_max_s

-- Gear::Ladder: a level that lost a whole burst is held off, longer each time, and one that lost part of it for loss_hold_s
unfoldable pub held : Profile → ℕ → Float → Float → Float → Gear → Gear
held p at loss snr now g =
    let channel = blamed p at snr in
    cond (lt whole_loss loss) (with_tries (with_holds g (held_until g.holds at (add binary64 now (fail_hold p g at channel now)) (not channel))) (failed g.tries at))
    (cond (lt loss_to_step_down loss) (with_holds g (held_until g.holds at (add binary64 now p.hold_times.loss_hold_s) true)) (with_tries g (cleared g.tries at)))

-- (one..=far).all(|k| fails[k] == 0)
unfoldable pub spotless : Tries → ℕ → ℕ → Bool
spotless t one far = every (λ k. nat_eq (slice_index t.fails k) 0) (upto one (far + 1))

-- halfway to the target while far below, but one at a time into a level that has failed before
unfoldable pub climbed : Profile → Gear → ℕ → Float → ℕ
climbed p g at now =
    let skip = nat_le p.skip_slices_from g.target && not (is_step g.target) in
    let one = climb_above g.holds (heeded_class p g) skip at 1 now in
    let far = climb_above g.holds (heeded_class p g) skip at (max ((g.target - at + 1) / 2) 2) now in
    cond (nat_le 3 (g.target - at) && spotless g.tries one far) far one

-- `next`: two levels down, one down, up, or the same (`step_down`'s last argument: two instead of one)
unfoldable pub next_level : Profile → Gear → ℕ → Float → Float → ℕ
next_level p g at loss now =
    cond (lt whole_loss loss) (step_down (heeded_class p g) at true)
    (cond (lt loss_to_step_down loss) (step_down (heeded_class p g) at false)
    (cond (eq loss (w32 0) && nat_lt at g.target) (climbed p g at now) at))

-- `family_ok`(at) fails: the report rules out the waveform just used, so straight to the target
unfoldable pub next_allowed : Profile → Gear → ℕ → Float → Float → ℕ
next_allowed p g at loss now = cond (family_ok (heeded_class p g) at) (next_level p g at loss now) g.target

-- Gear::Ladder: `worth_keeping` stays without a hold
unfoldable pub by_ladder : Profile → ℕ → Float → Float → Float → Gear → Gear
by_ladder p at loss snr now g =
    let h = held p at loss snr now g in
    cond (lt loss_to_step_down loss && worth_keeping p g at now) (with_level g (capped p g at now)) (with_level h (capped p h (next_allowed p h at loss now) now))

-- a burst whose loss is judged: its share first, then the level, then `adapt_burst`
unfoldable pub judged : Profile → ℕ → Float → Float → Float → Gear → Gear
judged p at loss snr now g =
    let h = with_tries g (noted g.tries at (sub binary32 (w32 1) loss) now) in
    adapted p at loss snr (cond p.goodput (by_goodput p at loss snr now h) (by_ladder p at loss snr now h))

-- `got`: a reply with another number is for an older burst, and nothing of the last one arrived
unfoldable pub arrived : Outcome → ℕ
arrived o = cond o.matched o.got 0

-- `on_ack`
unfoldable pub on_ack : Profile → Gear → Outcome → Float → Float → Gear
on_ack p g o snr now =
    let h = aimed p g snr in
    cond o.empty h
    (cond (not o.fresh && o.matched) (increments_only p h now)
    (judged p g.level (loss_of (arrived o) o.sent) snr now h))
