use Rattle.gear.specs.BurstLength.{steady}
use Rattle.gear.proofs.burst_length.steady.Goals as goal

pub returns : goal.returns
unfolding steady
returns c = simp c.abs32-moved.ensures
