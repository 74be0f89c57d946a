-- Two bytes are the number that they spell. Assumes nothing.
use native.Mathlib.Omega.{arith}
use Rattle.byte_copy.proofs.Widths.{load2}
use Rattle.byte_copy.proofs.U16Little.load.Goals as goal

pub returns : goal.returns
returns c = omega (arith, c.from_le_bytes.ensures, load2 c.args.a.now c.args.at c.requires)
