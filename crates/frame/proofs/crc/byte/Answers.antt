-- `frame::crc::byte` meets its contract: a byte by its halves.
use mathlib.Core.Path.{sym, ap₂, ◌∙◌}
use lib.Bits.{bit_xor}
use Rattle.frame.proofs.crc.Laws.{shifts-halves}
use Rattle.frame.proofs.crc.byte.Goals as goal

pub returns : goal.returns
returns c =
    let s = c in
    ap₂ bit_xor c.pick.ensures c.pick-2.ensures ∙ sym (shifts-halves s.args.k s.args.x)
