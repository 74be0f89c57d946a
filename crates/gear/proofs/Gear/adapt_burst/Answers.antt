use Rattle.gear.specs.BurstLength.{adapted}
use lib.Ieee.{of_int, of_bits}
use Rattle.std.proofs.Common.{arith}
use Rattle.gear.proofs.Gear.adapt_burst.Goals as goal

pub far-far-requires : goal.far-far-requires
far-far-requires c = record {
  fact_1 = c.requires.fact_1;
  fact_2 = omega (arith, c.requires.fact_2.top);
}

pub returns-then-loss-self : goal.returns-then-loss-self
unfolding adapted of_int of_bits
returns-then-loss-self c =
    let max = c in
    let far = max in
    simp (rw (far.far-far.ensures, far.steady-steady.ensures) at max.if-loss-self.true, c.min-longer.ensures, c.burst_seconds.ensures, max.max-most.ensures)

pub returns : goal.returns
unfolding adapted of_int of_bits
returns c = simp (rw (c.far-far.ensures, c.steady-steady.ensures) at c.if-loss-self.false)
