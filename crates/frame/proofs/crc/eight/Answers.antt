-- `frame::crc::eight` meets its contract: eight bytes go in, each by its own table.
use mathlib.Core.Path.{refl, sym, ap₂, ◌∙◌}
use lib.Bits.{bit_xor}
use Rattle.frame.proofs.crc.Laws.{shifts-eight}
use Rattle.frame.proofs.crc.eight.Goals as goal

pub returns : goal.returns
returns c =
    let c7 = c in
    let c6 = c7 in
    let c5 = c6 in
    let c4 = c5 in
    let c3 = c4 in
    let c2 = c3 in
    let c1 = c2 in
    let s = c1 in
    ap₂ bit_xor (ap₂ bit_xor c7.byte-7.ensures c.byte-8.ensures) (ap₂ bit_xor (ap₂ bit_xor c5.byte-5.ensures c6.byte-6.ensures)
    (ap₂ bit_xor (ap₂ bit_xor c3.byte-3.ensures c4.byte-4.ensures) (ap₂ bit_xor c1.byte.ensures c2.byte-2.ensures)))
    ∙ sym (shifts-eight s.args.x _ _ _ s.ranges.x.fits refl refl refl)
