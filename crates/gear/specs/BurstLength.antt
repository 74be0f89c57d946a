-- The length of bursts. Definitions only.
use Rattle.std.specs.Prelude.{ℕ, ◌+◌, Bool, false, cond, not, ◌&&◌, ◌||◌, ◌==◌, Float}
use Rattle.std.specs.Float.{inf, binary32, binary64}
use Rattle.std.specs.Float.Ieee.{add, sub, mul, div, le, lt, eq}
use Rattle.ieee.specs.Range.{inside, w32, w64}
use Rattle.float.specs.Pick.{min_f, max_f, clamp_f, abs_f}
use Rattle.laws.specs.Span.{upto, fold}
use Rattle.level.specs.Ladder.{wave_rank}
use Rattle.config.specs.Entries.{entry_at}
use Rattle.config.specs.declared.Marks.{Marks}
use Rattle.config.specs.declared.MaybeDb.{MaybeDb}
use Rattle.config.specs.declared.Profile.{Profile}
use Rattle.config.specs.Durations.{ack_at, data_at}
use Rattle.gear.specs.declared.Gear.{Gear}
use Rattle.gear.specs.Goodput.{cue_for}
use Rattle.gear.specs.Setters.{some_db, with_burst, with_report}

-- `clean_burst_s`
unfoldable pub clean_burst : Profile → ℕ → Bool → Float
clean_burst p l cue =
    let pre = data_at p.air l 1 cue in
    let ack = ack_at p.air (wave_rank l) in
    let turn = mul binary64 (w64 2) p.lengths.turnaround_s in
    let lo = p.lengths.max_burst_s in
    clamp_f (sub binary64 (sub binary64 (div binary64 (add binary64 (add binary64 pre ack) turn) p.lengths.burst_overhead) ack) turn) lo (max_f p.lengths.max_burst_long_s lo)

-- "burst seconds 1 to 1,000", or 0, the value in a fresh record
abbrev pub burst_ok : Float → Bool
burst_ok s = eq s (w64 0) || inside (w64 1) (w64 1000) s

-- `burst_s`: a fresh record's 0 stands for the usual seconds, the profile's max_burst_s, with which Station::new begins
unfoldable pub burst_seconds : Float → Float → Float
burst_seconds usual s = cond (eq s (w64 0)) usual s

-- `burst_len_s`
unfoldable pub burst_len : Profile → Gear → ℕ → Float
burst_len p g l = cond p.lengths.burst_adapt (min_f (burst_seconds p.lengths.max_burst_s g.burst_s) (clean_burst p l (cue_for p g l))) p.lengths.max_burst_s

-- `next_entry`: the lowest SNR that a faster level wants, by the plain thresholds
unfoldable pub next_entry : Marks → ℕ → ℕ → Float
next_entry m at top = fold (λ x k. min_f x (entry_at m k)) (inf false) (upto (at + 1) (top + 1))

-- `adapt_burst`: a clean burst at a level that stays, on a steady channel, not close to a faster level's entry
unfoldable pub steady : MaybeDb → Float → Float → Bool
steady last most snr = last.set && le (abs_f (sub binary32 snr last.db)) most

unfoldable pub far : Marks → MaybeDb → ℕ → ℕ → Float → Bool
far m climb at top snr = not climb.set || lt snr (sub binary32 (next_entry m at top) climb.db)

unfoldable pub adapted : Profile → ℕ → Float → Float → Gear → Gear
adapted p at loss snr g =
    with_report
    (with_burst g
    (cond (eq loss (w32 0) && g.level == at && steady g.last_report_db p.lengths.burst_steady_db snr && far p.plain p.lengths.burst_climb_db at p.max_level snr)
    (min_f (mul binary64 (burst_seconds p.lengths.max_burst_s g.burst_s) (w64 2)) (max_f p.lengths.max_burst_long_s p.lengths.max_burst_s))
    p.lengths.max_burst_s))
    (some_db snr)
