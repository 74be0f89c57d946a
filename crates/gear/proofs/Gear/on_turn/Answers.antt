use Rattle.gear.specs.OtherReplies.{on_turn}
use Rattle.gear.proofs.Gear.on_turn.Goals as goal

pub returns-then-burst : goal.returns-then-burst
unfolding on_turn
returns-then-burst c = simp (c.if-burst.true, c.turn.ensures)

pub returns : goal.returns
unfolding on_turn
returns c = simp (c.if-burst.false, c.turn-2.ensures, c.on_ack-self.ensures)
