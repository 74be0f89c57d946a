use Rattle.levels.specs.Memory.{marked}
use Rattle.laws.proofs.Picks.{told-yes, told-no}
use Rattle.levels.proofs.memory.Tries.mark.Goals as goal

pub returns-then-hits : goal.returns-then-hits
unfolding marked
returns-then-hits c = simp (told-yes _ _ c.hits.ensures c.if-hits.true, c.saturating_add.ensures, c.faded-share.ensures)

pub returns : goal.returns
unfolding marked
returns c = simp (told-no _ _ c.hits.ensures c.if-hits.false)
