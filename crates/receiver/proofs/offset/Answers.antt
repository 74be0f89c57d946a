-- `offset` meets its contract: three bytes, low byte first.
use Rattle.receiver.proofs.Reading.{off-bytes}
use native.Mathlib.Omega.{arith}
use Rattle.receiver.proofs.offset.Goals as goal

pub returns : goal.returns
returns c =
    (omega (arith, off-bytes c.args.f.now c.requires), omega arith)
