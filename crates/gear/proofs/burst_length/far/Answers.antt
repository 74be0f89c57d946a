use Rattle.gear.specs.BurstLength.{far}
use Rattle.gear.proofs.burst_length.far.Goals as goal

pub returns : goal.returns
unfolding far
returns c = simp c.next_entry-entry.ensures
