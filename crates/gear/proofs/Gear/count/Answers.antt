use Rattle.gear.specs.Judging.{failures_counted}
use lib.Ieee.{of_int, of_bits}
use Rattle.gear.proofs.Gear.count.Goals as goal

pub returns-then-channel : goal.returns-then-channel
unfolding failures_counted
returns-then-channel c = simp (c.if-loss.true, c.if-channel.true, c.channel_failed.ensures, c.fail-self.ensures)

pub returns-then-loss : goal.returns-then-loss
unfolding failures_counted
returns-then-loss c = simp (c.if-loss.true, c.if-channel.false, c.fail-self.ensures)

pub returns-then-loss-2 : goal.returns-then-loss-2
unfolding failures_counted of_int of_bits
returns-then-loss-2 c = simp (c.if-loss.false, c.if-loss-2.true, c.clear-self.ensures)

pub returns : goal.returns
unfolding failures_counted of_int of_bits
returns c = simp (c.if-loss.false, c.if-loss-2.false)
