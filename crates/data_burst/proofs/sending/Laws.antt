-- The steps of a burst, one after the other.
-- Assumes nothing.
use mathlib.Core.Path.{◌≡◌, refl, sym, ap, ap₂, ◌∙◌}
use mathlib.Core.List.{List}
use mathlib.Core.Bool.{Bool, true, false, cond}
use Prim.Native.Nat.{ℕ, ◌+◌, ◌-◌, ◌≤◌}
use native.Mathlib.Omega.{arith}
use lib.Dec.{eqb}
use lib.ListN.{length, take, length-take}
use borrow.Author.Tests.{eq-eqb, ne_eqb}
use Rattle.laws.specs.Bytes.{overwrite, Bytes}
use Rattle.laws.proofs.Picks.{by}
use Rattle.harq.specs.declared.Harq.{Harq}
use Rattle.area.specs.Layout.{place}
use Rattle.area.specs.Table.{rows_from}
use Rattle.area.proofs.table.Laws.{length-rows, table_kept}
use Rattle.area.specs.Recut.{split_table, merge_table, new_table}
use Rattle.frames.specs.Slots.{push_all, slots_from, unheld_slots, added_pieces}
use Rattle.frames.specs.declared.slots.Slot.{Slot}
use Rattle.frames.specs.declared.slots.Added.{Added}
use Rattle.frames.specs.declared.slots.Slots.{Slots}
use Rattle.frames.proofs.slots.Laws.{push-all-count, increments-length, new-facts, chunk-total}
use Rattle.frames.specs.Frames.{frames_written, SlotsFit}
use Rattle.plan.specs.declared.Choice.{Choice}
use Rattle.plan.specs.declared.Planned.{Planned}
use Rattle.record.specs.declared.AtPeer.{AtPeer}
use Rattle.record.specs.declared.Sender.{Sender}
use Rattle.data_burst.specs.declared.sending.Sending.{Sending}
use Rattle.data_burst.specs.Rows.{kept_held, cut_at, cut_table, slots_in, incs, olds, picked, Pickable, next_of, plan, held_kept, table_recut, gone, burst_rows, Ready}
use Rattle.limits.specs.Limits.{max_slots}

-- ---- the held list

abbrev none : AtPeer → AtPeer
none h = record { off = h.off; bits = h.bits; n = 0; rest = 0 }

abbrev some : AtPeer → ℕ → AtPeer
some h k = record { off = h.off; bits = h.bits; n = h.n; rest = h.n - k }

pub keep-none : (h : AtPeer) (k : ℕ) → k ≡ 0 → none h ≡ kept_held h k
unfolding kept_held
keep-none h k e = sym (ap (λ (b : Bool). cond b (none h) (some h k)) (eq-eqb k 0 e))

pub keep_some : (h : AtPeer) (k : ℕ) → (k ≡ 0 → ⊥) → some h k ≡ kept_held h k
unfolding kept_held
keep_some h k e = sym (ap (λ (b : Bool). cond b (none h) (some h k)) (ne_eqb k 0 e))

pub kept_off : (h : AtPeer) (k : ℕ) → (kept_held h k).off ≡ h.off
unfolding kept_held
kept_off h k = by (λ (x : AtPeer). x.off ≡ h.off) (eqb k 0) (λ e. refl) (λ e. refl)

-- ---- cut and merged

module _ (long merging : Bool) (payload : ℕ) (held : List ℕ) (n : ℕ) (a : List ℕ) where
  abbrev to : Bool → Bool → ℕ × List ℕ
  to l m = new_table a (cut_at l m payload held (rows_from a 0 n))

  pub cut_short : long ≡ false → split_table payload n a ≡ cut_table long merging payload held n a
  unfolding cut_table split_table
  cut_short e = sym (ap (λ (l : Bool). to l merging) e)

  pub cut-merged : long ≡ true → merging ≡ true → merge_table held payload n a ≡ cut_table long merging payload held n a
  unfolding cut_table merge_table
  cut-merged e d = sym (ap₂ to e d)

  pub cut-none : long ≡ true → merging ≡ false → Bytes a → place (0 + n) ≤ length a → (n, a) ≡ cut_table long merging payload held n a
  unfolding cut_table
  cut-none e d b h = sym (ap₂ to e d ∙ ap₂ (λ (k : ℕ) (x : List ℕ). (k, x)) (length-rows a 0 n) (table_kept a b 0 n h))

-- ---- what goes

module _ (q : Harq) (slot payload : ℕ) (s : Sender) (h : AtPeer) (pl : Planned) (n : ℕ) (a : List ℕ) (s₁ s₂ : Slots)
    (e₁ : s₁ ≡ push_all (slots_in s.last_burst) (incs q slot payload s h pl n a)) (e₂ : s₂ ≡ push_all s₁ (olds q slot payload s h pl n a)) where
  pub first-few : s₁.n ≤ pl.parity
  first-few =
      omega (
        arith,
        ap (λ (x : Slots). x.n) e₁,
        push-all-count (slots_in s.last_burst) (incs q slot payload s h pl n a),
        increments-length q slot (rows_from a 0 n) (take pl.parity h.off) (take pl.parity h.bits),
        length-take pl.parity h.off,
      )

  pub then-more : s₂.n ≡ s₁.n + length (olds q slot payload s h pl n a)
  then-more = ap (λ (x : Slots). x.n) e₂ ∙ push-all-count s₁ (olds q slot payload s h pl n a)

  pub old-few : length (olds q slot payload s h pl n a) ≤ pl.room
  old-few = omega (arith, length-take pl.room (unheld_slots (take h.n h.off) slot 0 (rows_from a 0 n)))

  pub pick_is : (x : Added × List ℕ)
      → x ≡ added_pieces a n (pl.room - (s₂.n - s₁.n)) payload s.counts.next_offset s.counts.flying s.counts.waiting slot s₂
      → x ≡ picked q slot payload s h pl n a
  unfolding picked
  pick_is x e =
      let l : pl.room - (s₂.n - s₁.n) ≡ pl.room - length (olds q slot payload s h pl n a) = omega (arith, then-more) in
      e ∙ ap₂ (λ (k : ℕ) (t : Slots). added_pieces a n k payload s.counts.next_offset s.counts.flying s.counts.waiting slot t) l
      (e₂ ∙ ap (λ (t : Slots). push_all t (olds q slot payload s h pl n a)) e₁)

-- ---- put together

module _ (q : Harq) (c : Choice) (payload : ℕ) (merging : Bool) (s : Sender) (a : List ℕ) (size : ℕ) (out : List ℕ) (rd : Ready q c payload merging s a size out)
    (pl : Planned) (e₀ : pl ≡ plan q c payload merging s a) where
  pub parity-few : pl.parity ≤ s.at_peer.n
  parity-few = omega (arith, ap (λ (x : Planned). x.parity) e₀, rd.parity)

  module _ (h : AtPeer) (e₁ : h ≡ kept_held s.at_peer pl.parity) where
    kept-is : h ≡ held_kept q c payload merging s a
    kept-is = e₁ ∙ ap (λ (x : Planned). kept_held s.at_peer x.parity) e₀

    pub held_fits : length s.at_peer.off ≡ max_slots → h.n ≤ length h.off
    held_fits l =
        omega (arith, ap (λ (x : AtPeer). length x.off) e₁, ap length (kept_off s.at_peer pl.parity), ap (λ (x : AtPeer). x.n) kept-is, rd.pickable.held)

    module _ (x : ℕ × List ℕ) (e₂ : x ≡ cut_table c.long merging payload (take h.n h.off) s.counts.pieces a) where
      recut-is : x ≡ table_recut q c payload merging s a
      recut-is = e₂ ∙ ap (λ (k : AtPeer). cut_table c.long merging payload (take k.n k.off) s.counts.pieces a) kept-is

      pub pick-able : Pickable q c.slot payload s h pl x.0 x.1
      pick-able = rw (recut-is, kept-is, e₀) rd.pickable

      module _ (y : Added × List ℕ) (e₃ : y ≡ picked q c.slot payload s h pl x.0 x.1) where
        gone-is : y ≡ gone q c payload merging s a
        gone-is = e₃ ∙ (λ i. picked q c.slot payload s (kept-is i) (e₀ i) (recut-is i).0 (recut-is i).1)

        abbrev xs : List Slot
        xs = slots_from y.0.slots 0 y.0.slots.n

        pub shows : (y.0.slots.n ≤ max_slots) × (10 ≤ size) × (length (frames_written size xs y.1) ≤ length out) × SlotsFit size (length y.1) xs
        shows = rw gone-is (rd.slots, rd.sized, rd.shown, rd.fit)

        pub bytes-few : y.0.bytes ≤ s.counts.waiting
        unfolding picked
        bytes-few =
            let k = pl.room - length (olds q c.slot payload s h pl x.0 x.1) in
            let t = new-facts x.1 x.0 k payload s.counts.next_offset s.counts.flying s.counts.waiting c.slot _ y.0 y.1 e₃ in
            omega (arith, t.2, chunk-total k payload s.counts.next_offset s.counts.waiting)

        pub done : (number : ℕ) (o : List ℕ) (r : Sender) → o ≡ overwrite out 0 (frames_written size xs y.1) → r ≡ next_of s h y.0 number
            → ◌≡◌ {A = Sending × (List ℕ × List ℕ)} (record { slots = y.0.slots; plan = pl; next = r }, (y.1, o)) (burst_rows q c payload merging s a number size out)
        unfolding burst_rows
        done number o r d e =
            λ i. (
              record { slots = (gone-is i).0.slots; plan = e₀ i; next = (e ∙ ap₂ (λ (k : AtPeer) (z : Added × List ℕ). next_of s k z.0 number) kept-is gone-is) i },
              ((gone-is i).1, (d ∙ ap (λ (z : Added × List ℕ). overwrite out 0 (frames_written size (slots_from z.0.slots 0 z.0.slots.n) z.1)) gone-is) i),
            )
