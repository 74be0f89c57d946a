use Rattle.gear.proofs.JudgeLaws.{aimed-level, aimed-target}
use Rattle.gear.specs.Judging.{on_ack}
use Rattle.gear.proofs.Gear.on_ack.Goals as goal

pub returns-then-burst : goal.returns-then-burst
unfolding on_ack
returns-then-burst c = simp (c.if-burst.true, c.aim-self.ensures)

pub returns-then-burst-2 : goal.returns-then-burst-2
unfolding on_ack
returns-then-burst-2 c = simp (c.if-burst.false, c.if-burst-2.true, c.increments_only.ensures, c.aim-self.ensures)

pub judge-requires : goal.judge-requires
judge-requires c =
    let s = c in
    let e = c.aim-self.ensures in record {
      fact_1 = s.requires.fact_1;
      fact_2 = rw (e, aimed-level) s.requires.fact_1;
      fact_3 = rw e (aimed-target _ _ _ s.requires.fact_2);
      fact_4 = s.requires.fact_2;
    }

pub returns : goal.returns
unfolding on_ack
returns c =
    let b = c in
    simp (b.if-burst.false, b.if-burst-2.false, c.judge.ensures, c.loss.ensures, b.arrived.ensures, b.aim-self.ensures)
