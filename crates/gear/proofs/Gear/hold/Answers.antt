use Rattle.gear.specs.Judging.{held}
use Rattle.gear.proofs.Gear.hold.Goals as goal

pub returns-then-loss : goal.returns-then-loss
unfolding held
returns-then-loss c = simp (c.if-loss.true, c.fail-self.ensures, c.hold_until-self.ensures, c.fail_hold.ensures, c.blamed-channel.ensures)

pub returns-then-loss-2 : goal.returns-then-loss-2
unfolding held
returns-then-loss-2 c = simp (c.if-loss.false, c.if-loss-2.true, c.hold_until-self-then-loss-2.ensures)

pub returns : goal.returns
unfolding held
returns c = simp (c.if-loss.false, c.if-loss-2.false, c.clear-self.ensures)
