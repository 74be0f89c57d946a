-- `rows::u32` is read as the number of its bytes. Assumes nothing.
use Rattle.laws.specs.Little.{load}
use Rattle.card.proofs.rows.U32Placed.read.Goals as goal

pub returns : goal.returns
unfolding load
returns c = c.load.ensures
