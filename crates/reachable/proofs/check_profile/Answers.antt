use mathlib.Core.Path.{ap}
use mathlib.Core.Bool.{not}
use Rattle.config.specs.Ranges.{in_order}
use Rattle.reachable.proofs.Refusals.{profile-out, profile-order, profile-good}
use Rattle.reachable.proofs.check_profile.Goals as goal

pub returns-then-not-in_range : goal.returns-then-not-in_range
returns-then-not-in_range c = profile-out _ _ _ _ c.in_range.ensures (ap not c.if-not-in_range.true)

pub returns-then-not-in_order : goal.returns-then-not-in_order
unfolding in_order
returns-then-not-in_order c =
    profile-order _ _ _ _ c.in_range.ensures _ c.in_order.ensures (ap not c.if-not-in_range.false) (ap not c.if-not-in_order.true)

pub returns : goal.returns
unfolding in_order
returns c =
    profile-good _ _ _ _ c.in_range.ensures _ c.in_order.ensures (ap not c.if-not-in_range.false) _ (ap not c.if-not-in_order.false)
    c.check_order.ensures
