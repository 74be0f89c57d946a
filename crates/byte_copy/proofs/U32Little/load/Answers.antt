-- Four bytes are the number that they spell. Assumes nothing.
use native.Mathlib.Omega.{arith}
use Rattle.laws.proofs.Little.{load4}
use Rattle.byte_copy.proofs.U32Little.load.Goals as goal

pub returns : goal.returns
returns c = omega (arith, c.from_le_bytes.ensures, load4 c.args.a.now c.args.at c.requires)
