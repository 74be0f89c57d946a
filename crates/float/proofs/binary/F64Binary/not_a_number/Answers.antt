-- The one value that differs from itself. Assumes nothing.
use Rattle.ieee.proofs.Value.{ne-self}
use Rattle.float.proofs.binary.F64Binary.not_a_number.Goals as goal

pub returns : goal.returns
returns c = ne-self c.args.self
