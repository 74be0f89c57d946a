-- `area_check::rows::shorts_of` meets its contract.
use Rattle.area_check.proofs.rows.Laws.{one-short}
use Rattle.area_check.proofs.rows.shorts_of.Goals as goal

pub returns-then-len-short : goal.returns-then-len-short
returns-then-len-short c = one-short _ _ c.requires.0 c.if-len-short.true
