use Rattle.gear.specs.Goodput.{remembered}
use lib.Ieee.{of_int, of_bits}
use Rattle.gear.proofs.goodput.remembered.Goals as goal

pub returns : goal.returns
unfolding remembered of_int of_bits
returns c = simp (c.narrowed.ensures, c.exp64.ensures, c.memory_s.ensures)
