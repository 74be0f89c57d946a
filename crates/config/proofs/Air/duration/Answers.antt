use Rattle.config.specs.Durations.{duration_at}
use Rattle.config.proofs.Air.duration.Goals as goal

pub returns : goal.returns
unfolding duration_at
returns c = c.duration.ensures
