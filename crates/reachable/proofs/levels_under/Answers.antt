use mathlib.Core.Path.{refl, sym}
use Rattle.reachable.specs.Reachable.{listing_under}
use Rattle.reachable.proofs.Refusals.{profile-none, answer-yes, answer-no, under, number-some}
use Rattle.reachable.proofs.levels_under.Goals as goal

pub listed-requires : goal.listed-requires
listed-requires c = profile-none _ _ _ (sym c.in-Ok.ensures)

pub returns-in-Ok : goal.returns-in-Ok
unfolding listing_under
returns-in-Ok c =
    answer-yes 0 _ c.in-Ok.ensures _ _ refl (under _ _ _ _ _ _ _ c.marks.ensures c.heeded-heard.ensures c.listed.ensures)

pub returns-in-Err : goal.returns-in-Err
unfolding listing_under
returns-in-Err c = answer-no _ _ c.in-Err.ensures _ _ (number-some c.in-Err.refusal) c.refused.ensures
