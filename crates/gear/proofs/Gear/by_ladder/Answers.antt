use Rattle.gear.proofs.JudgeLaws.{held-target}
use Rattle.gear.specs.Judging.{by_ladder}
use Rattle.gear.proofs.Gear.by_ladder.Goals as goal

pub returns-then-loss-worth_keeping : goal.returns-then-loss-worth_keeping
unfolding by_ladder
returns-then-loss-worth_keeping c = simp (rw c.worth_keeping.ensures at c.if-loss-worth_keeping.true, c.capped.ensures)

pub next_allowed-requires : goal.next_allowed-requires
next_allowed-requires c = record {
  fact_1 = c.requires.fact_1;
  fact_2 = rw (c.hold-self.ensures, held-target) c.requires.fact_2;
}

pub returns : goal.returns
unfolding by_ladder
returns c = simp (rw c.worth_keeping.ensures at c.if-loss-worth_keeping.false, c.capped-2.ensures, c.next_allowed.ensures, c.hold-self.ensures)
