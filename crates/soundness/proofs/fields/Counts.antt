-- The test of the counts: what it says, and a part of it that says no. Assumes nothing.
use mathlib.Core.Path.{◌≡◌, sym, ◌∙◌}
use mathlib.Core.Bool.{Bool, true, false, ◌&&◌, true≢false}
use Prim.Native.Nat.{ℕ, ◌+◌, ◌≤◌}
use native.Mathlib.Omega.{arith}
use lib.Dec.{leb}
use borrow.Author.Tests.{leb-true, leb-false, lt-leb, eqb-true}
use Rattle.laws.proofs.Picks.{test, and_yes, and_left, and_right}
use Rattle.laws.proofs.Tests.{all-at}
use Rattle.record.specs.declared.Sender.{Sender}
use Rattle.soundness.specs.Soundness.{counts_ok}
use Rattle.limits.specs.Limits.{max_slots, max_flying, max_waiting, max_pieces, max_taken}

module _ (s : Sender) (h : counts_ok s ≡ true) where
  pub held-few : s.at_peer.n ≤ max_slots
  unfolding counts_ok
  held-few = leb-true _ _ (all-at _ 0 h)

  pub rest-few : s.at_peer.rest ≤ s.at_peer.n
  unfolding counts_ok
  rest-few = leb-true _ _ (all-at _ 1 h)

  pub out-few : s.last_burst.n + s.at_peer.rest ≤ max_slots
  unfolding counts_ok
  out-few = leb-true _ _ (all-at _ 2 h)

  pub sent-few : s.last_burst.n ≤ max_slots
  sent-few = omega (arith, out-few)

  pub waiting_few : s.counts.waiting ≤ max_waiting
  unfolding counts_ok
  waiting_few = leb-true _ _ (all-at _ 3 h)

  pub flying-few : s.counts.flying ≤ max_flying
  unfolding counts_ok
  flying-few = leb-true _ _ (all-at _ 4 h)

  pub pieces-within : s.counts.pieces ≤ max_pieces
  unfolding counts_ok
  pieces-within = leb-true _ _ (all-at _ 5 h)

  pub taken-few : s.counts.next_offset + s.counts.waiting ≤ max_taken
  unfolding counts_ok
  taken-few = leb-true _ _ (all-at _ 6 h)

  pub acked-is : s.counts.bytes_acked + s.counts.flying ≡ s.counts.next_offset
  unfolding counts_ok
  acked-is = eqb-true _ _ (all-at _ 7 h)

-- n held, r of them unsent, b outstanding
pub too_many : (n r b : ℕ) (t : Bool) → ((leb n max_slots && leb r n) && leb b max_slots) ≡ false → (leb n max_slots && (leb r n && (leb (b + r) max_slots && t))) ≡ false
too_many n r b t h =
    test (leb n max_slots)
    (λ p. test (leb r n)
    (λ q. test (leb b max_slots)
    (λ z. absurd (true≢false (sym (and_yes _ _ (and_yes _ _ p q) z) ∙ h)))
    (λ z. and_right (leb n max_slots) _ (and_right (leb r n) _ (and_left _ t (lt-leb (b + r) max_slots (omega (arith, leb-false b max_slots z)))))))
    (λ q. and_right (leb n max_slots) _ (and_left (leb r n) _ q)))
    (λ p. and_left _ _ p)
