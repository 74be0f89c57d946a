use Rattle.laws.proofs.Picks.{picks}
use Rattle.reachable.specs.Reachable.{order_refusal}
use Rattle.reachable.proofs.check_order.Goals as goal

pub returns-then-high-low : goal.returns-then-high-low
unfolding order_refusal
returns-then-high-low c = search picks

pub returns : goal.returns
unfolding order_refusal
returns c = search picks
