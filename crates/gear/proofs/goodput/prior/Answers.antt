use Rattle.gear.specs.Goodput.{prior_of}
use lib.Ieee.{of_int, of_bits}
use Rattle.gear.proofs.goodput.prior.Goals as goal

pub returns : goal.returns
unfolding prior_of of_int of_bits
returns c = simp c.exp32.ensures
