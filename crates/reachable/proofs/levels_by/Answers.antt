use mathlib.Core.Path.{refl, sym}
use Rattle.reachable.specs.Reachable.{listing_by}
use Rattle.reachable.proofs.Refusals.{range_none, answer-yes, answer-no, number-some}
use Rattle.reachable.proofs.levels_by.Goals as goal

pub listed-requires : goal.listed-requires
listed-requires c = range_none _ _ _ _ _ (sym c.in-Ok.ensures)

pub returns-in-Ok : goal.returns-in-Ok
unfolding listing_by
returns-in-Ok c = answer-yes 0 _ c.in-Ok.ensures _ _ refl c.listed.ensures

pub returns-in-Err : goal.returns-in-Err
unfolding listing_by
returns-in-Err c = answer-no _ _ c.in-Err.ensures _ _ (number-some c.in-Err.refusal) c.refused.ensures
