use Rattle.config.specs.Durations.{frame_bits}
use Rattle.config.proofs.Air.frame_bits.Goals as goal

pub returns : goal.returns
unfolding frame_bits
returns c = simp (c.from-2.ensures, c.slot.ensures, c.from.ensures)
