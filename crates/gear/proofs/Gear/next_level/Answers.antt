use Rattle.std.proofs.Common.{ltb-true}
use Rattle.laws.proofs.Picks.{and_second}
use Rattle.gear.specs.Judging.{next_level}
use lib.Ieee.{of_int, of_bits, eq, binary32}
use Rattle.gear.proofs.Gear.next_level.Goals as goal

pub returns-then-loss : goal.returns-then-loss
unfolding next_level
returns-then-loss c = simp (c.if-loss.true, c.step_down.ensures, c.heeded-class.ensures)

pub returns-then-loss-2 : goal.returns-then-loss-2
unfolding next_level
returns-then-loss-2 c = simp (c.if-loss.false, c.if-loss-2.true, c.step_down-then-loss-2.ensures, c.heeded-class.ensures)

pub climb-requires : goal.climb-requires
climb-requires c = record {
  fact_1 = c.requires.fact_1;
  fact_2 = c.requires.fact_2;
  fact_3 = ltb-true _ _ (and_second (eq c.args.loss (of_bits binary32 0)) _ c.if-loss-at.true);
}

pub returns-then-loss-at : goal.returns-then-loss-at
unfolding next_level of_int of_bits
returns-then-loss-at c = simp (c.if-loss.false, c.if-loss-2.false, c.if-loss-at.true, c.climb.ensures)

pub returns : goal.returns
unfolding next_level of_int of_bits
returns c = simp (c.if-loss.false, c.if-loss-2.false, c.if-loss-at.false)
