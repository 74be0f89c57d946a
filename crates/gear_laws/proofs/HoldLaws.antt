-- No reply sets a hold that ends later than the longest hold after it: a doubled hold is cut at fail_hold_max_s, and rounding keeps the
-- order of sums.
-- Assumes nothing.
use mathlib.Core.Bool.{Bool, cond, not, ◌&&◌}
use Prim.Native.Nat.{ℕ, ◌+◌, ◌-◌, ◌<◌, min}
use lib.Dec.{T, eqb}
use lib.ListN.{get_or}
use lib.Ieee.{Float, nan, binary32, binary64, add, sub, le, lt, of_int}
use lib.Ieee.Scale.{finite}
use Rattle.ieee.specs.Range.{In, w32, w64}
use Rattle.ieee.proofs.Value.{le_refl, le_trans, finite-no-nan}
use Rattle.ieee.proofs.Mono.{add-mono}
use Rattle.ieee.proofs.Bounds.{in-finite}
use Rattle.float.specs.Gear.{loss_of, loss_to_step_down, whole_loss}
use Rattle.float.specs.Pick.{max_f}
use Rattle.exp_laws.proofs.Holds.{hold-in}
use Rattle.float_laws.proofs.MinMax.{max-keeps, max-ge}
use Rattle.laws.proofs.Picks.{either}
use Rattle.config.specs.declared.Profile.{Profile}
use Rattle.config.specs.Ranged.{Ranged}
use Rattle.levels.specs.declared.usable.Holds.{Holds}
use Rattle.gear.specs.declared.Gear.{Gear}
use Rattle.gear.specs.declared.Outcome.{Outcome}
use Rattle.levels.specs.Memory.{noted, others, held_until}
use Rattle.gear.specs.Setters.{with_tries}
use Rattle.gear.specs.BurstLength.{adapted}
use Rattle.gear.specs.Judging.{aimed, capped, increments_only, blamed, by_goodput, worth_keeping, fail_hold, held, by_ladder, judged, arrived}
use Rattle.gear.specs.Judging.{on_ack}
use Rattle.gear_laws.specs.Sound.{TimeInRange}
use Rattle.gear_laws.proofs.SoundLaws.{kept-by-set}

-- ---- what holds of every end, and of the two that a reply may set, holds of every end after it

module _ (Q : Float → Type 0) where
  abbrev pub Each : Gear → Type 0
  Each g = (k : ℕ) → k < 17 → Q (get_or g.holds.blocked_until k nan)

  module _ (p : Profile) (now : Float) (fails : (g : Gear) (at : ℕ) (channel : Bool) → Q (add binary64 now (fail_hold p g at channel now)))
      (loses : Q (add binary64 now p.hold_times.loss_hold_s)) where
    until-each : (h : Holds) (at : ℕ) (end : Float) (all : Bool) → at < 17 → ((k : ℕ) → k < 17 → Q (get_or h.blocked_until k nan)) → Q end
        → (k : ℕ) → k < 17 → Q (get_or (held_until h at end all).blocked_until k nan)
    unfolding held_until
    until-each h at end all b e q k i =
        kept-by-set Q h.blocked_until at k _ nan (max-keeps Q (get_or h.blocked_until at nan) end (e at b) q) (e k i)

    held-each : (at : ℕ) (loss snr : Float) (g : Gear) → at < 17 → Each g → Each (held p at loss snr now g)
    unfolding held
    held-each at loss snr g b e =
        either Each (lt whole_loss loss) _ _ (until-each g.holds at _ _ b e (fails g at (blamed p at snr)))
        (either Each (lt loss_to_step_down loss) _ _ (until-each g.holds at _ _ b e loses) e)

    ladder-each : (at : ℕ) (loss snr : Float) (g : Gear) → at < 17 → Each g → Each (by_ladder p at loss snr now g)
    unfolding by_ladder
    ladder-each at loss snr g b e = either Each (lt loss_to_step_down loss && worth_keeping p g at now) _ _ e (held-each at loss snr g b e)

    judged-each : (at : ℕ) (loss snr : Float) (g : Gear) → at < 17 → Each g → Each (judged p at loss snr now g)
    unfolding judged adapted by_goodput
    judged-each at loss snr g b e =
        either Each p.goodput _ _ e (ladder-each at loss snr (with_tries g (noted g.tries at (sub binary32 (w32 1) loss) now)) b e)

    pub ack-each : (g : Gear) (o : Outcome) (snr : Float) → g.level < 17 → Each g → Each (on_ack p g o snr now)
    unfolding on_ack aimed increments_only
    ack-each g o snr b e =
        either Each o.empty _ _ e
        (either Each (not o.fresh && o.matched) _ _ (either Each (eqb (capped p (aimed p g snr) g.level now) g.level) _ _ e e)
        (judged-each g.level (loss_of (arrived o) o.sent) snr (aimed p g snr) b e))

-- ---- the longest hold after a reply

module _ (p : Profile) (k : Ranged p) where
  abbrev most-s : Float
  most-s = p.hold_times.fail_hold_max_s

  abbrev loss-s : Float
  loss-s = p.hold_times.loss_hold_s

  abbrev pub longest : Float
  longest = max_f most-s loss-s

  hold-finite : (x : Float) → In (w64 0) (w64 1000000) x → T (finite x)
  unfolding of_int
  hold-finite x i = in-finite {lo = w64 0} {hi = w64 1000000} {x = x} tt tt i

  time-finite : (t : Float) → TimeInRange t → T (finite t)
  unfolding of_int
  time-finite t i = in-finite {lo = w64 0} {hi = w64 1000000000} {x = t} tt tt i

  longest-in : In (w64 0) (w64 1000000) longest
  longest-in = max-keeps (In (w64 0) (w64 1000000)) most-s loss-s k.holds.most k.holds.loss

  larger : T (le most-s longest) × T (le loss-s longest)
  larger =
      max-ge most-s loss-s (finite-no-nan most-s (hold-finite most-s k.holds.most))
      (finite-no-nan loss-s (hold-finite loss-s k.holds.loss))

  same : (t : Float) → TimeInRange t → T (le t t)
  same t i = le_refl t (finite-no-nan t (time-finite t i))

  -- a later reply's ends no earlier
  pub longest-later : (t now : Float) → TimeInRange t → TimeInRange now → T (le t now)
      → T (le (add binary64 t longest) (add binary64 now longest))
  longest-later t now i j h =
      let f = hold-finite longest longest-in in
      add-mono binary64 t now _ _ (time-finite t i) (time-finite now j) f f h (le_refl longest (finite-no-nan _ f))

  -- each of the two holds ends by it
  pub fail-ends : (now : Float) → TimeInRange now → (g : Gear) (at : ℕ) (channel : Bool)
      → T (le (add binary64 now (fail_hold p g at channel now)) (add binary64 now longest))
  unfolding fail_hold
  fail-ends now i g at channel =
      let n = min (get_or g.tries.fails at 0 + 1) 255 - 1 + cond channel (others g.holds at now) 0 in
      let h = hold-in p.hold_times.fail_hold_s most-s k.holds.fail k.holds.most n in
      let f = time-finite now i in
      let e = hold-finite _ (record { low = h.low; high = le_trans _ _ _ h.high k.holds.most.high }) in
      add-mono binary64 now now _ _ f f e (hold-finite _ longest-in) (same now i) (le_trans _ most-s _ h.high larger.0)

  pub loss-ends : (now : Float) → TimeInRange now → T (le (add binary64 now loss-s) (add binary64 now longest))
  loss-ends now i =
      let f = time-finite now i in
      add-mono binary64 now now _ _ f f (hold-finite loss-s k.holds.loss) (hold-finite _ longest-in) (same now i) larger.1
