-- `took_slot` meets its contract: the bit of the slot is above those of the bitmap.
use Rattle.receiver.proofs.Reading.{slot-bit, slot-shift}
use native.Mathlib.Omega.{arith}
use Rattle.receiver.proofs.took_slot.Goals as goal

pub overflow_add-result-2 : goal.overflow_add-result-2
overflow_add-result-2 c = omega (arith, c.requires.0, slot-shift c.args.s c.requires.1, slot-bit c.args.s c.requires.1)

pub returns : goal.returns
returns c = rw (slot-shift c.args.s c.requires.1)
