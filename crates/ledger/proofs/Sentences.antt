-- Sentences of document 01 and of sender.rs on a burst and on an ack, one law each, over the ledger.
-- Assumes nothing.
use Prim.Native.Nat.{ℕ, zero, suc, ◌+◌, ◌*◌, ◌≤◌, ◌<◌, max}
use mathlib.Core.Path.{◌≡◌, refl}
use mathlib.Core.Logic.{◌⊎◌, ⊎_elim}
use mathlib.Core.Bool.{Bool, true, false, ◌&&◌}
use mathlib.Core.List.{◌++◌}
use native.Mathlib.Omega.{arith}
use lib.Dec.{eqb, ltb}
use borrow.Author.Tests.{eqb-true, eqb-false}
use Rattle.laws.proofs.Picks.{by, either, test, and_second}
use Rattle.limits.specs.Limits.{max_slots}
use Rattle.ledger.specs.Reply.{Reply}
use Rattle.ledger.specs.Ledger.{Sender, data_burst, old_offs, new_pieces, offs, wholes, hear_ack, settle_burst, clear_burst, settles}
use Rattle.ledger.specs.Plan.{Choice, plan_of, parity, parity_bits, offered, cap, stored, one_more, room, room_from}
use Rattle.ledger.specs.Plan.{whole_frames, burst_bits_sent}
use Rattle.ledger.specs.Station.{Station}
use Rattle.ledger.specs.CallsCode.{turn_move, step}
use Rattle.ledger.specs.Sizes.{Sizes}
use Rattle.ledger.proofs.Planned.{parity-le, sent-bits, whole_frames-le}

module _ (z : Sizes) (k : Choice) (s : Sender) where
  -- "Only in the waveform they were stored from", and in long frames only: else all frames of the burst have whole pieces
  pub no-increments : k.long && k.same_wave ≡ false →
      (data_burst (plan_of z k s) s).sent ≡ wholes (plan_of z k s) (old_offs (plan_of z k s) s ++ offs (new_pieces (plan_of z k s) s))
  unfolding data_burst
  no-increments e =
      let o : offered z k s ≡ 0 = rw e in
      let p : parity z k s ≡ 0 = omega (arith, parity-le z k s) in
      rw p

  -- each whole frame that the loop counts was tested
  room_from-bits : (f r w : ℕ) → r < w → w ≤ room_from z k s f r → k.in_max_bits (parity_bits z k s (parity z k s) + w * k.slot) ≡ true
  room_from-bits zero r w h i = absurd (omega arith)
  room_from-bits (suc f) r w h i =
      test (one_more z k s r)
      (λ e.
      let i' : w ≤ room_from z k s f (suc r) = rw e at i in
      test (eqb w (suc r))
      (λ d. rw (eqb-true w (suc r) d)
      (and_second
      (ltb (parity z k s + r) (cap k) && ltb (stored z k s + r) max_slots && k.in_burst (parity_bits z k s (parity z k s) + suc r * k.slot)) _ e))
      (λ d. room_from-bits f (suc r) w (omega (arith, eqb-false w (suc r) d)) i'))
      (λ e. absurd (let i' : w ≤ r = rw e at i in omega arith))

  -- `parity_bits + (room + 1) * slot <= max_bits`: beyond "one frame goes, however long", whole pieces stay within the level's most bits
  pub fresh-max-bits : 1 ≤ whole_frames z k s → (1 ≤ parity z k s) ⊎ (2 ≤ whole_frames z k s) →
      k.in_max_bits (burst_bits_sent (data_burst (plan_of z k s) s).sent) ≡ true
  fresh-max-bits h c =
      let i : whole_frames z k s ≤ room_from z k s max_slots 0 =
      test (eqb (parity z k s) 0)
      (λ e.
      let q : room z k s ≡ max 1 (room_from z k s max_slots 0) = rw e in
      ⊎_elim (λ u. absurd (omega (arith, eqb-true (parity z k s) 0 e))) (λ u. omega (arith, whole_frames-le z k s)) c)
      (λ e. let q : room z k s ≡ room_from z k s max_slots 0 = rw e in omega (arith, whole_frames-le z k s)) in
      rw (sent-bits z k s) (room_from-bits max_slots 0 (whole_frames z k s) (omega arith) i)

-- "An ack not awaited updates only the turn and disconnect wishes and the number last heard": nothing of the ledger
pub not-awaited : (top : ℕ) (r : Reply) (keep : Bool) (s : Sender) → s.awaited ≡ false → hear_ack top r keep s ≡ s
unfolding hear_ack
not-awaited top r keep s e = rw e

-- after an ack none is awaited
pub ack-ends : (top : ℕ) (r : Reply) (keep : Bool) (s : Sender) → (hear_ack top r keep s).awaited ≡ false
unfolding hear_ack settle_burst clear_burst
ack-ends top r keep s =
    by (λ (x : Sender). x.awaited ≡ false) s.awaited (λ _. either (λ (x : Sender). x.awaited ≡ false) (settles r s) _ _ refl refl) (λ w. w)

-- "An unmatched burst number settles nothing": the held list and the unsent rest stay
pub unmatched-keeps : (top : ℕ) (r : Reply) (keep : Bool) (s : Sender) → settles r s ≡ false →
    ((hear_ack top r keep s).held ≡ s.held) × ((hear_ack top r keep s).rest ≡ s.rest)
unfolding hear_ack clear_burst
unmatched-keeps top r keep s e = rw e (test s.awaited (λ d. (rw d, rw d)) (λ d. (rw d, rw d)))

-- and so they do at a turn, `on_ack` with another number
pub turn-keeps : (z : Sizes) (s : Station) → ((step z turn_move s).sender.held ≡ s.sender.held) × ((step z turn_move s).sender.rest ≡ s.sender.rest)
unfolding clear_burst
turn-keeps z s = (refl, refl)
