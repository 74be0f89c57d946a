use Rattle.config.specs.Ranges.{maybe_db_ok}
use Rattle.config.proofs.ranges.maybe_db_ok.Goals as goal

pub returns : goal.returns
unfolding maybe_db_ok
returns c = cc
