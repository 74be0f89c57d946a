-- A typed and sound gear record stays so, whatever replies come. Assumes nothing.
use mathlib.Core.Bool.{Bool, not, ◌&&◌}
use Prim.Native.Nat.{ℕ, ◌<◌}
use lib.Dec.{T, eqb}
use lib.ListN.{get_or}
use lib.Ieee.{Float, nan, sub, binary32, le, lt, eq}
use Rattle.ieee.specs.Range.{w32, w64}
use Rattle.float.specs.Gear.{loss_of, loss_to_step_down, whole_loss}
use Rattle.laws.proofs.Picks.{either}
use Rattle.laws.proofs.Span.{fold-keep}
use Rattle.config.specs.declared.Profile.{Profile}
use Rattle.config.specs.Ranged.{Ranged}
use Rattle.report.specs.declared.ChanClass.{ChanClass}
use Rattle.levels.specs.declared.memory.Tries.{Tries}
use Rattle.levels.specs.Memory.{noted, failed, cleared, hits, marked, channel_failed}
use Rattle.gear.specs.declared.Gear.{Gear}
use Rattle.gear.specs.Setters.{with_tries, with_class}
use Rattle.gear.specs.BurstLength.{adapted}
use Rattle.gear.specs.declared.Outcome.{Outcome}
use Rattle.gear.specs.Judging.{aimed, capped, increments_only, blamed, failures_counted, by_goodput, worth_keeping, held, by_ladder, judged, arrived, on_ack}
use Rattle.gear.specs.OtherReplies.{connected, at_turn, unmatched_outcome, on_turn}
use Rattle.gear_laws.specs.Sound as G
use Rattle.gear_laws.specs.Sound.{OutcomeInRange, DbInRange, TimeInRange}
use Rattle.gear_laws.proofs.SoundLaws.{kept-by-set, on-ack-sound, connected-sound, on-turn-sound}
use Rattle.invariant.specs.Invariant.{TypedGear}
use Rattle.soundness.specs.SoundnessCode.{SoundGear}

-- ---- success times

abbrev Past : Float → Type 0
Past x = T (le x (w64 1000000000))

abbrev Times : Tries → Type 0
Times t = (k : ℕ) → k < 17 → Past (get_or t.success_at k nan)

module _ (at : ℕ) (now : Float) (n : Past now) where
  noted-times : (t : Tries) (ok : Float) → Times t → Times (noted t at ok now)
  unfolding noted
  noted-times t ok s j i = kept-by-set Past t.success_at at j now nan n (s j i)

  marked-times : (k : ℕ) (t : Tries) → Times t → Times (marked at now t k)
  unfolding marked
  marked-times k t s = either Times (hits at k) _ t (λ j i. kept-by-set Past t.success_at k j now nan n (s j i)) s

  failed-times : (t : Tries) → Times t → Times (failed t at)
  unfolding failed
  failed-times t s = s

  cleared-times : (t : Tries) → Times t → Times (cleared t at)
  unfolding cleared
  cleared-times t s = s

  channel-times : (t : Tries) → Times t → Times (channel_failed t at now)
  unfolding channel_failed
  channel-times t s = fold-keep Times (marked at now) t 0 17 (λ k x h q. marked-times k x q) s

  counted-times : (loss : Float) (channel : Bool) (t : Tries) → Times t → Times (failures_counted at loss channel now t)
  unfolding failures_counted
  counted-times loss channel t s =
      either Times (lt whole_loss loss) _ _ (either Times channel _ _ (channel-times (failed t at) (failed-times t s)) (failed-times t s))
      (either Times (eq loss (w32 0)) _ _ (cleared-times t s) s)

-- ---- transitions: success times

abbrev Dated : Gear → Type 0
Dated g = Times g.tries

module _ (p : Profile) (now : Float) (n : Past now) where
  aimed-dated : (g : Gear) (snr : Float) → Dated g → Dated (aimed p g snr)
  unfolding aimed
  aimed-dated g snr d = d

  increments-dated : (g : Gear) → Dated g → Dated (increments_only p g now)
  unfolding increments_only
  increments-dated g d = either Dated (eqb (capped p g g.level now) g.level) _ _ d d

  goodput-dated : (at : ℕ) (loss snr : Float) (g : Gear) → Dated g → Dated (by_goodput p at loss snr now g)
  unfolding by_goodput
  goodput-dated at loss snr g d = counted-times at now n loss (blamed p at snr) g.tries d

  held-dated : (at : ℕ) (loss snr : Float) (g : Gear) → Dated g → Dated (held p at loss snr now g)
  unfolding held
  held-dated at loss snr g d =
      either Dated (lt whole_loss loss) _ _ (failed-times at now n g.tries d) (either Dated (lt loss_to_step_down loss) _ _ d (cleared-times at now n g.tries d))

  ladder-dated : (at : ℕ) (loss snr : Float) (g : Gear) → Dated g → Dated (by_ladder p at loss snr now g)
  unfolding by_ladder
  ladder-dated at loss snr g d = either Dated (lt loss_to_step_down loss && worth_keeping p g at now) _ _ d (held-dated at loss snr g d)

  judged-dated : (at : ℕ) (loss snr : Float) (g : Gear) → Dated g → Dated (judged p at loss snr now g)
  unfolding judged adapted
  judged-dated at loss snr g d =
      let x = with_tries g (noted g.tries at (sub binary32 (w32 1) loss) now) in
      let e : Dated x = noted-times at now n g.tries (sub binary32 (w32 1) loss) d in
      either Dated p.goodput _ _ (goodput-dated at loss snr x e) (ladder-dated at loss snr x e)

  ack-dated : (g : Gear) (o : Outcome) (snr : Float) → Dated g → Dated (on_ack p g o snr now)
  unfolding on_ack
  ack-dated g o snr d =
      let e = aimed-dated g snr d in
      either Dated o.empty _ _ e
      (either Dated (not o.fresh && o.matched) _ _ (increments-dated (aimed p g snr) e) (judged-dated g.level (loss_of (arrived o) o.sent) snr (aimed p g snr) e))

  turn-dated : (g : Gear) (o : Outcome) (snr : Float) (w : ℕ) → Dated g → Dated (on_turn p g o snr w now)
  unfolding on_turn at_turn
  turn-dated g o snr w d = either Dated o.empty g _ d (ack-dated g (unmatched_outcome o) snr d)

-- ---- typed and sound

abbrev pub WellGear : Gear → Type 0
WellGear g = SoundGear g × TypedGear g

to-laws : (g : Gear) → WellGear g → G.GearInRange g
to-laws g w =
    let s = w.0 in
    record {
      level = s.level;
      target = s.target;
      burst = s.burst;
      aim = s.aim;
      last = s.last;
      reports = record { a = s.a; b = s.b; c = s.c };
      shares = record { width = w.1.width; share = λ k h z. (w.1.shares k h z, s.shares k h z) };
      ends = s.ends;
    }

from-laws : (g : Gear) → G.GearInRange g → Dated g → WellGear g
from-laws g s d = (
  record {
    level = s.level;
    target = s.target;
    burst = s.burst;
    aim = s.aim;
    last = s.last;
    a = s.reports.a;
    b = s.reports.b;
    c = s.reports.c;
    shares = λ k h z. (s.shares.share k h z).1;
    times = d;
    ends = s.ends;
  },
  record { width = s.shares.width; shares = λ k h z. (s.shares.share k h z).0 },
)

dated : (g : Gear) → WellGear g → Dated g
dated g w = w.0.times

pub class-well : (g : Gear) (c : ChanClass) → WellGear g → WellGear (with_class g c)
class-well g c w = from-laws (with_class g c) (let s = to-laws g w in record { level = s.level; target = s.target; burst = s.burst; aim = s.aim; last = s.last; reports = s.reports; shares = s.shares; ends = s.ends }) (dated g w)

module _ (p : Profile) (k : Ranged p) where
  pub ack-gear-well : (g : Gear) (o : Outcome) (snr now : Float) → OutcomeInRange o → DbInRange snr → TimeInRange now → WellGear g → WellGear (on_ack p g o snr now)
  ack-gear-well g o snr now n r t w = from-laws _ (on-ack-sound p k g o snr now n r t (to-laws g w)) (ack-dated p now t.high g o snr (dated g w))

  pub connected-gear-well : (g : Gear) (class : ChanClass) (cue : Bool) (snr now : Float) → DbInRange snr → WellGear g → WellGear (connected p g class cue snr now)
  unfolding connected
  connected-gear-well g class cue snr now r w = from-laws _ (connected-sound p k g class cue snr now r (to-laws g w)) (dated g w)

  pub turn-gear-well : (g : Gear) (o : Outcome) (snr : Float) (w : ℕ) (now : Float) → OutcomeInRange o → DbInRange snr → TimeInRange now → WellGear g → WellGear (on_turn p g o snr w now)
  turn-gear-well g o snr w now n r t x = from-laws _ (on-turn-sound p k g o snr w now n r t (to-laws g x)) (turn-dated p now t.high g o snr w (dated g x))
