use Rattle.std.proofs.Common.{refl}
use Rattle.gear.specs.Levels.{view_weighed}
use Rattle.laws.proofs.Picks.{cond_yes, cond_no, told-yes, told-no}
use Rattle.gear.proofs.goodput.View.weigh.Goals as goal

pub returns-then-candidate : goal.returns-then-candidate
unfolding view_weighed
returns-then-candidate c = cond_yes _ _ _ _ (told-yes _ _ c.candidate.ensures c.if-candidate.true) (rw c.worth.ensures at c.over.ensures)

pub returns : goal.returns
unfolding view_weighed
returns c = cond_no _ _ _ _ (told-no _ _ c.candidate.ensures c.if-candidate.false) refl
