-- `frame::crc::one` meets its contract: one byte goes in.
use mathlib.Core.Path.{sym, ap, ◌∙◌}
use Prim.Native.Nat.{ℕ, ◌/◌, ◌<◌, ◌^◌}
use native.Mathlib.Omega.{arith}
use lib.Bits.{bit_xor, xor_lt}
use Rattle.frame.specs.Crc.{shifts}
use Rattle.frame.proofs.crc.Laws.{shifts-slice}
use Rattle.frame.proofs.crc.one.Goals as goal

small : (c b : ℕ) → c < 2 ^ 32 → b < 256 → bit_xor c b < 2 ^ 32
small c b h g = xor_lt 32 c b h (omega arith)

pub overflow_cast-x-2 : goal.overflow_cast-x-2
overflow_cast-x-2 c = omega (arith, small c.args.c c.args.b c.ranges.c.fits c.ranges.b.fits)

pub returns : goal.returns
unfolding shifts
returns c =
    let x = bit_xor c.args.c c.args.b in
    ap (λ (r : ℕ). bit_xor r (x / 256)) c.byte.ensures ∙ sym (shifts-slice 8 0 x)
