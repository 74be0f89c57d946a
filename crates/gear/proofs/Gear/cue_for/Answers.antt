use Rattle.gear.specs.Goodput.{cue_for}
use Rattle.gear.proofs.Gear.cue_for.Goals as goal

pub returns : goal.returns
unfolding cue_for
returns c = simp c.wave_rank-w.ensures
