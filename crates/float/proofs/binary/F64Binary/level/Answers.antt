-- Two equal values by their bits (`proofs/order/TotalLaws.antt`). Assumes nothing.
use lib.Ieee.{binary64}
use Rattle.ieee.proofs.Tests.{yes}
use Rattle.float.proofs.order.TotalLaws.{level-yes, equal_no_nan}
use Rattle.float.proofs.binary.F64Binary.level.Goals as goal

pub float_to_bits-result : goal.float_to_bits-result
float_to_bits-result c = (equal_no_nan _ _ c.if-self-other.true).1

pub returns-then-self-other : goal.returns-then-self-other
returns-then-self-other c = level-yes binary64 _ _ (yes c.well_formed.0.1) (yes c.well_formed.1.0.1) c.if-self-other.true
