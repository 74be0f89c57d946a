-- `begin`: the sender before it ends. Assumes nothing.
use Rattle.run_lines.proofs.Laws.{begun-by}
use Rattle.run_lines.proofs.begin.Goals as goal

pub ended-requires : goal.ended-requires
ended-requires c = tt

pub returns : goal.returns
returns c = begun-by _ _ _ c.ended.ensures
