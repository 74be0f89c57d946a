use Rattle.gear.specs.Goodput.{over}
use Rattle.laws.proofs.Picks.{told-yes, told-no}
use Rattle.gear.proofs.goodput.over.Goals as goal

pub returns-in-Some : goal.returns-in-Some
unfolding over
returns-in-Some c = simp (c.in-Some.is, told-no _ _ c.total_le.ensures c.if-not-total_le.true)

pub returns-in_default : goal.returns-in_default
unfolding over
returns-in_default c = simp (c.in-Some.is, told-yes _ _ c.total_le.ensures c.if-not-total_le.false)

pub returns-in_default-2 : goal.returns-in_default-2
unfolding over
returns-in_default-2 c = simp c.in_default.is
