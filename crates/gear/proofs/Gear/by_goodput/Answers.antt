use Rattle.gear.specs.Judging.{by_goodput}
use Rattle.gear.proofs.Gear.by_goodput.Goals as goal

pub pick_by_goodput-requires : goal.pick_by_goodput-requires
pick_by_goodput-requires c = let s = c in record {
  fact_1 = rw c.count-self.ensures s.requires.fact_2;
  fact_2 = s.requires.fact_3;
}

pub returns : goal.returns
unfolding by_goodput
returns c = simp (c.pick_by_goodput.ensures, c.count-self.ensures, c.blamed.ensures)
