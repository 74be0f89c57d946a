use Rattle.levels.specs.Rates.{payload_bits}
use Rattle.laws.proofs.Picks.{calls}
use Rattle.levels.proofs.rates.Pace.payload_bits.Goals as goal

pub returns-then-long_frame : goal.returns-then-long_frame
unfolding payload_bits
returns-then-long_frame c = search calls

pub returns-else-long_frame : goal.returns-else-long_frame
unfolding payload_bits
returns-else-long_frame c = search calls
