use Rattle.levels.specs.Memory.{faded}
use lib.Ieee.{of_int, of_bits}
use Rattle.laws.proofs.Picks.{picks}
use Rattle.levels.proofs.memory.faded.Goals as goal

pub returns-then-tried : goal.returns-then-tried
unfolding faded of_int of_bits
returns-then-tried c = search picks

pub returns-else-tried : goal.returns-else-tried
unfolding faded of_int of_bits
returns-else-tried c = search picks
