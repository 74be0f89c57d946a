-- A burst's seconds lie between the usual ones and the longer of the usual and the long ones. Assumes nothing.
use Rattle.std.proofs.Common.{ℕ, ◌<◌, Bool, not, ◌&&◌, T, eqb, [], ◌∷◌, get_or, arith}
use lib.Ieee.{Float, nan, binary64, le, lt, eq, neg, add, mul, div, of_int, is_nan}
use Rattle.ieee.specs.Range.{In, w32, w64}
use Rattle.ieee.proofs.Value.{le_refl, le_trans, le-no-nan}
use Rattle.ieee.proofs.Bounds.{in-no-nan}
use Rattle.float.specs.Gear.{cue_seconds}
use Rattle.float.specs.Pick.{min_f, max_f}
use Rattle.laws.proofs.Picks.{either}
use Rattle.float_laws.proofs.Durations.{whole_in}
use Rattle.float_laws.proofs.Intervals.{var, lit, plus, times, over, none, more, within}
use Rattle.float_laws.proofs.MinMax.{min-le, min-keeps, max-ge, clamp-in}
use Rattle.float_laws.proofs.GearRanges.{clean-in, doubled-in}
use Rattle.level.specs.Ladder.{wave_rank}
use Rattle.level.proofs.Laws.{wave-lt}
use Rattle.config.specs.declared.Profile.{Profile}
use Rattle.config.specs.Durations.{data_at}
use Rattle.config.specs.Ranged.{Ranged}
use Rattle.levels.proofs.rates.RateLaws.{cue-in}
use Rattle.gear.specs.declared.Gear.{Gear}
use Rattle.gear.specs.Goodput.{cue_for}
use Rattle.gear.specs.BurstLength.{clean_burst, burst_seconds, burst_len, steady, far, adapted}

module _ (p : Profile) (k : Ranged p) where
  abbrev usual : Float
  usual = p.lengths.max_burst_s

  abbrev longest : Float
  longest = max_f p.lengths.max_burst_long_s usual

  no_nan : (x : Float) → In (w64 1) (w64 1000) x → T (not (is_nan x))
  unfolding of_int
  no_nan x i = in-no-nan {lo = w64 1} {hi = w64 1000} {x = x} tt tt i

  usual-le : T (le usual longest)
  usual-le = (max-ge p.lengths.max_burst_long_s usual (no_nan p.lengths.max_burst_long_s k.lengths.long) (no_nan usual k.lengths.usual)).1

  module _ (l : ℕ) (h : l < 17) where
    -- a burst of one bit
    one_in : (cue : Bool) → In (w64 0) (w64 71) (data_at p.air l 1 cue)
    unfolding of_int le lt add div data_at
    one_in cue =
        within ((w64 0, w64 60) ∷ (w64 0, w64 1) ∷ (w64 1, w64 100000) ∷ (w64 0, w64 10) ∷ [])
        (get_or p.air.pre_s l nan ∷ w64 1 ∷ get_or p.air.rate l nan ∷ cue_seconds cue p.air.cue_s ∷ [])
        (plus binary64 (plus binary64 (var 0) (over binary64 (var 1) (var 2))) (var 3)) (w64 0) (w64 71)
        (more (k.air.level l h).pre (more (whole_in 1 1 (omega arith)) (more (k.air.level l h).rate (more (cue-in p.air.cue_s k.air.cue cue) none)))) tt

    turn_in : In (w64 0) (w64 120) (mul binary64 (w64 2) p.lengths.turnaround_s)
    unfolding of_int le lt mul
    turn_in = within ((w64 0, w64 60) ∷ []) (p.lengths.turnaround_s ∷ []) (times binary64 (lit (w64 2)) (var 0)) (w64 0) (w64 120) (more k.lengths.turnaround none) tt

    pub clean-burst-in : (cue : Bool) → In usual longest (clean_burst p l cue)
    unfolding clean_burst of_int neg
    clean-burst-in cue =
        clamp-in _ usual longest
        (in-no-nan {lo = neg (w64 180)} {hi = w64 25101} tt tt (clean-in _ _ _ _ (one_in cue) (k.air.ack (wave_rank l) (wave-lt l)) turn_in k.lengths.overhead)) usual-le

    pub burst-len-in : (g : Gear) → T (le usual (burst_seconds usual g.burst_s)) → In usual longest (burst_len p g l)
    unfolding burst_len
    burst-len-in g b =
        let clean = clean_burst p l (cue_for p g l) in
        let i = clean-burst-in (cue_for p g l) in
        let m = min-le (burst_seconds usual g.burst_s) clean (le-no-nan usual (burst_seconds usual g.burst_s) b).1 (le-no-nan usual clean i.low).1 in
        either (In usual longest) p.lengths.burst_adapt _ _
        (record { low = min-keeps (λ (z : Float). T (le usual z)) (burst_seconds usual g.burst_s) clean b i.low; high = le_trans (min_f (burst_seconds usual g.burst_s) clean) clean longest m.1 i.high })
        (record { low = le_refl usual (no_nan usual k.lengths.usual); high = usual-le })

  -- the next budget: from 1 to 1,000 s
  pub adapted-in : (at : ℕ) (loss snr : Float) (g : Gear) → In (w64 1) (w64 1000) (burst_seconds usual g.burst_s) → In (w64 1) (w64 1000) (adapted p at loss snr g).burst_s
  unfolding adapted
  adapted-in at loss snr g i =
      either (In (w64 1) (w64 1000)) (eq loss (w32 0) && eqb g.level at && steady g.last_report_db p.lengths.burst_steady_db snr && far p.plain p.lengths.burst_climb_db at p.max_level snr) _ _ (doubled-in _ _ _ i k.lengths.long k.lengths.usual) k.lengths.usual
