use Rattle.gear.specs.BurstLength.{burst_seconds}
use lib.Ieee.{of_int, of_bits}
use Rattle.gear.proofs.Gear.burst_seconds.Goals as goal

pub returns-then-self : goal.returns-then-self
unfolding burst_seconds of_int of_bits
returns-then-self c = simp c.if-self.true

pub returns-else-self : goal.returns-else-self
unfolding burst_seconds of_int of_bits
returns-else-self c = simp c.if-self.false
