use Rattle.laws.proofs.Picks.{told-yes, told-no}
use Rattle.gear.specs.Judging.{next_allowed}
use Rattle.gear.proofs.Gear.next_allowed.Goals as goal

pub returns-then-family_ok : goal.returns-then-family_ok
unfolding next_allowed
returns-then-family_ok c = simp (told-yes _ _ (rw c.heeded.ensures at c.family_ok.ensures) c.if-family_ok.true, c.next_level-next.ensures)

pub returns-else-family_ok : goal.returns-else-family_ok
unfolding next_allowed
returns-else-family_ok c = simp (told-no _ _ (rw c.heeded.ensures at c.family_ok.ensures) c.if-family_ok.false)
