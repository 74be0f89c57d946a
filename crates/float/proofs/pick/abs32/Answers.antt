-- `float::pick::abs32` meets its contract (`proofs/PickLaws.antt`). Assumes nothing.
use Rattle.std.proofs.Common.{◌∙◌}
use Rattle.float.proofs.PickLaws.{abs-is}
use Rattle.float.proofs.pick.abs32.Goals as goal

pub returns : goal.returns
returns c = c.abs.ensures.value ∙ abs-is c.args.x
