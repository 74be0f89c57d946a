-- The air allowance, of a burst as it is answered.
-- Assumes nothing.
use Prim.Native.Nat.{ℕ, ◌+◌, ◌≤◌}
use mathlib.Core.Path.{◌≡◌, refl, sym, ap, ◌∙◌, subst}
use mathlib.Core.Logic.{◌⊎◌, inl, inr}
use mathlib.Core.Bool.{true, false, false≢true}
use mathlib.Core.List.{List, [], ◌∷◌, ◌++◌, map}
use native.Mathlib.Omega.{arith}
use lib.Dec.{eqb}
use lib.Ieee.{le}
use lib.ListN.{length, take}
use borrow.Author.Tests.{eqb-true, eqb-false}
use Rattle.laws.proofs.Picks.{test}
use Rattle.config.specs.declared.Profile.{Profile}
use Rattle.config.specs.Durations.{duration_at, data_at}
use Rattle.gear.specs.declared.Gear.{Gear}
use Rattle.ledger.specs.Ledger as L
use Rattle.ledger.specs.Ledger.{Sent, Plan, increments, wholes, kept_at_peer, old_offs, new_pieces, offs, data_burst}
use Rattle.ledger.specs.Plan.{Choice, plan_of, parity, burst_bits_sent, KeepsAir}
use Rattle.plan.specs.Planning.{fits}
use Rattle.record.specs.Profiles.{sizes_of}
use Rattle.record.specs.View.{view}
use Rattle.record.specs.declared.Sender.{Sender}
use Rattle.outgoing.specs.Choosing.{choice, chosen, cue}
use Rattle.demand.specs.Page.{sum_of, allowance, any_increment}

eqb-on : (a : ℕ) → eqb a a ≡ true
eqb-on a = test (eqb a a) (λ e. e) (λ e. absurd (eqb-false a a e refl))

module _ (g : Plan) where
  increment-wholes : (os : List ℕ) → any_increment (wholes g os) ≡ false
  increment-wholes [] = refl
  increment-wholes (o ∷ os) = rw (eqb-on g.slot) (increment-wholes os)

pub sum-bits : (fs : List Sent) → sum_of (map (λ (f : Sent). f.bits) fs) ≡ burst_bits_sent fs
sum-bits [] = refl
sum-bits (f ∷ fs) = ap (λ (n : ℕ). f.bits + n) (sum-bits fs)

module _ (p : Profile) (s : Sender) where
  abbrev G : Gear
  G = s.gear

  -- the test of the plan is the sentence's
  allowed : (bits : ℕ) → (choice p s).in_burst bits ≡ true → le (data_at p.air G.level bits (cue p G)) (allowance p G) ≡ true
  unfolding chosen fits data_at duration_at
  allowed bits h = h

module _ (p : Profile) (s : Sender) (a : List ℕ) where
  abbrev K : Choice
  K = choice p s

  abbrev W : L.Sender
  W = view s a

  abbrev Q : Plan
  Q = plan_of (sizes_of p) K W

  abbrev gone : List Sent
  gone = (data_burst Q W).sent

  increment-gone : any_increment gone ≡ true → 1 ≤ parity (sizes_of p) K W
  unfolding data_burst
  increment-gone h =
      test (eqb (parity (sizes_of p) K W) 0)
      (λ e.
      absurd (false≢true (sym (increment-wholes Q (old_offs Q W ++ offs (new_pieces Q W)))
      ∙ subst (λ (n : ℕ). any_increment (increments Q (take n (kept_at_peer Q W)) ++ wholes Q (old_offs Q W ++ offs (new_pieces Q W))) ≡ true) (eqb-true (parity (sizes_of p) K W) 0 e) h)))
      (λ e. omega (arith, eqb-false (parity (sizes_of p) K W) 0 e))

  premise : (2 ≤ length gone) ⊎ (any_increment gone ≡ true) → (2 ≤ length gone) ⊎ (1 ≤ parity (sizes_of p) K W)
  premise (inl h) = inl h
  premise (inr h) = inr (increment-gone h)

  pub on-time : KeepsAir (sizes_of p) K W → (2 ≤ length gone) ⊎ (any_increment gone ≡ true)
      → le (data_at p.air s.gear.level (burst_bits_sent gone) (cue p s.gear)) (allowance p s.gear) ≡ true
  on-time ka h = allowed p s (burst_bits_sent gone) (ka (premise h))
