-- What an accepted reply adds to the airtime count (document 02, Change 4).
-- Assumes nothing.
use mathlib.Core.Path.{◌≡◌, refl}
use mathlib.Core.List.{List}
use mathlib.Core.Bool.{cond}
use Prim.Native.Nat.{ℕ}
use Rattle.laws.proofs.Picks.{by₂}
use Rattle.report.specs.declared.ack.AckInfo.{AckInfo}
use Rattle.config.specs.Durations.{ack_at}
use Rattle.config.specs.declared.Profile.{Profile}
use Rattle.record.specs.Airtime.{air_added}
use Rattle.record.specs.View.{store, store_counts}
use Rattle.record.specs.declared.Sender.{Sender}
use Rattle.settle.specs.AckIn.{ack_in}
use Rattle.replies.specs.Replies.{short_acked, long_acked, turned, connected_to}
use Rattle.replies.specs.declared.Heard.{Heard}
use Rattle.replies.specs.declared.ConnAck.{ConnAck}
use Rattle.replies.specs.declared.Ack.{Ack}
use Rattle.replies.specs.declared.LongAck.{LongAck}
use Rattle.replies.specs.declared.Turn.{Turn}

module _ (p : Profile) (h : Heard) (s : Sender) (a : List ℕ) where
  abbrev before : ℕ
  before = s.counts.airtime_ms

  abbrev after : Sender × List ℕ → ℕ
  after x = x.0.counts.airtime_ms

  -- "for every awaited ack that arrives, the ack time of its wave": of any number, also of a burst with no frame. One not awaited adds nothing
  abbrev with_ack : ℕ
  with_ack = cond s.link.awaiting (air_added before (ack_at p.air h.wave)) before

  pub short-airtime : (r : Ack) → after (short_acked p h r s a) ≡ with_ack
  unfolding short_acked ack_in store store_counts
  short-airtime r = by₂ (λ (x : Sender × List ℕ) (n : ℕ). after x ≡ n) s.link.awaiting (λ e. refl) (λ e. refl)

  pub long-airtime : (r : LongAck) (i : AckInfo) → after (long_acked p h r i s a) ≡ with_ack
  unfolding long_acked ack_in store store_counts
  long-airtime r i = by₂ (λ (x : Sender × List ℕ) (n : ℕ). after x ≡ n) s.link.awaiting (λ e. refl) (λ e. refl)

  -- a turn or a connect answer adds nothing
  pub turn-airtime : (r : Turn) → after (turned p h r s a) ≡ before
  unfolding turned store store_counts
  turn-airtime r = refl

  pub connect-airtime : (r : ConnAck) → (connected_to p h r s).counts.airtime_ms ≡ before
  unfolding connected_to
  connect-airtime r = refl
