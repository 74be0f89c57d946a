-- The choice of a profile in its ranges is in the ledger's. Assumes nothing.
use Prim.Native.Nat.{◌≤◌, ◌<◌}
use native.Mathlib.Omega.{arith}
use lib.ListN.{length}
use Rattle.header.proofs.Laws.{burst-id-lt}
use Rattle.config.specs.declared.Profile.{Profile}
use Rattle.config.specs.Ranged.{Ranged}
use Rattle.levels.proofs.rates.RateLaws.{cue-in}
use Rattle.gear.specs.declared.Gear.{Gear}
use Rattle.ledger.specs.Plan.{ChoiceRange, Longer}
use Rattle.plan.proofs.Increments.{codes-range}
use Rattle.plan.proofs.Choices.{choice-range, choice-longer}
use Rattle.record.specs.declared.Link.{Link}
use Rattle.record.specs.declared.Sender.{Sender}
use Rattle.outgoing.specs.Choosing.{chosen, choice, cue, next_number}
use Rattle.plan.specs.PlanningCode.{AirRange, CodesRange}

module _ (p : Profile) (r : Ranged p) where
  chosen-air : (g : Gear) (k : Link) → g.level < 17 → AirRange (chosen p g k)
  unfolding chosen
  chosen-air g k l =
      let v = r.air.level g.level l in
      record { pre = v.pre; rate = v.rate; cue = cue-in p.air.cue_s r.air.cue (cue p g) }

  pub chosen-codes : (g : Gear) (k : Link) → g.level < 17 → length p.codes.ends ≤ 6 → CodesRange p.codes (chosen p g k)
  unfolding chosen
  chosen-codes g k l six =
      codes-range p.codes (chosen p g k) (chosen-air g k l) (r.air.level g.level l).slot six (λ i h. (r.codes.ends i h).1)

  module _ (s : Sender) (l : s.gear.level < 17) where
    pub choice-ranged : length p.codes.ends ≤ 6 → ChoiceRange (choice p s)
    choice-ranged six =
        choice-range p.codes (chosen p s.gear s.link) p.merge_pieces (next_number s.link) (chosen-codes s.gear s.link l six)
        (omega (arith, burst-id-lt s.link.burst_id s.link.heard s.link.peer_heard))

    pub choice-long : Longer (choice p s)
    choice-long =
        let c = chosen p s.gear s.link in
        choice-longer p.codes c p.merge_pieces (next_number s.link) (chosen-air s.gear s.link l)
