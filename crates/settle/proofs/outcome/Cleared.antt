-- Nothing but the burst is cleared.
-- Assumes nothing.
use mathlib.Core.Path.{◌≡◌, sym, ap, ap₂, ◌∙◌}
use mathlib.Core.List.{List, []}
use mathlib.Core.Bool.{false}
use Prim.Native.Nat.{ℕ}
use Rattle.laws.specs.Bytes.{overwrite, Bytes}
use Rattle.laws.proofs.Bytes.{over-nil}
use Rattle.gear.specs.declared.Gear.{Gear}
use Rattle.ledger.specs.Ledger as L
use Rattle.ledger.specs.Ledger.{clear_burst}
use Rattle.record.specs.View.{view, store, store_area, store_counts, store_held, store_sent, store_link}
use Rattle.record.specs.declared.AtPeer.{AtPeer}
use Rattle.record.specs.declared.Counts.{Counts}
use Rattle.record.specs.declared.LastBurst.{LastBurst}
use Rattle.record.specs.declared.Link.{Link}
use Rattle.record.specs.declared.Sender.{Sender}
use Rattle.record.proofs.View.{Counted, Arrays, area-kept, counts-kept, held_kept}
use Rattle.settle.specs.Settle.{unawaited}
use Rattle.record.specs.Setters.{with_gear, with_link, with_counts, with_at_peer, with_last_burst, with_awaiting, with_number}
use Rattle.settle.specs.AckInCode.{without_burst}

module _ (s : Sender) (a : List ℕ) (c : Counted s a) (ar : Arrays s) (by : Bytes a) where
  abbrev gone : L.Sender
  gone = clear_burst (view s a)

  abbrev none : LastBurst
  none = record { off = s.last_burst.off; bits = s.last_burst.bits; held = s.last_burst.held; n = 0 }

  area_same : store_area gone a ≡ a
  unfolding clear_burst store_area
  area_same = area-kept s a c by

  counts_same : store_counts gone s.counts ≡ s.counts
  unfolding clear_burst store_counts
  counts_same = counts-kept s a c by

  held_same : store_held gone s.at_peer ≡ s.at_peer
  unfolding clear_burst store_held
  held_same = held_kept s a c ar

  sent-gone : store_sent gone s.last_burst ≡ none
  unfolding clear_burst store_sent
  sent-gone =
      ap₂ (λ (x y : List ℕ). record { off = x; bits = y; held = overwrite s.last_burst.held 0 []; n = 0 }) (over-nil s.last_burst.off 0) (over-nil s.last_burst.bits 0)
      ∙ ap (λ (x : List ℕ). record { off = s.last_burst.off; bits = s.last_burst.bits; held = x; n = 0 }) (over-nil s.last_burst.held 0)

  link-gone : (k : Link) → k.burst_id ≡ s.link.burst_id → unawaited k ≡ store_link gone k
  unfolding clear_burst store_link view
  link-gone k e =
      ap (with_number (with_awaiting k false)) e

  pub cleared : (g : Gear) (k : Link) → k.burst_id ≡ s.link.burst_id → ◌≡◌ {A = Sender × List ℕ} (without_burst (with_link (with_gear s g) k), a) (store gone (with_link (with_gear s g) k), store_area gone a)
  unfolding store
  cleared g k e =
      sym (ap₂ (λ (x : Counts) (y : AtPeer). (with_last_burst (with_at_peer (with_counts (with_link (with_gear s g) (store_link gone k)) x) y) (store_sent gone s.last_burst), store_area gone a)) counts_same held_same
      ∙ ap₂ (λ (x : LastBurst) (y : List ℕ). (with_last_burst (with_link (with_gear s g) (store_link gone k)) x, y)) sent-gone area_same
      ∙ ap (λ (x : Link). (with_last_burst (with_link (with_gear s g) x) none, a)) (sym (link-gone k e)))
