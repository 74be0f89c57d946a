use Rattle.gear.specs.OtherReplies.{at_turn}
use Rattle.gear.proofs.Gear.turn.Goals as goal

pub returns : goal.returns
unfolding at_turn
returns c = simp (c.min.ensures, c.top_level_in.ensures)
