-- `float::whole::to_millis` meets its contract: the product, then `ceil_to_u64`. Assumes nothing.
use lib.Ieee.{of_int, of_bits}
use Rattle.float.proofs.whole.to_millis.Goals as goal

pub returns : goal.returns
unfolding of_int of_bits
returns c = c.ceil_to_u64.ensures
