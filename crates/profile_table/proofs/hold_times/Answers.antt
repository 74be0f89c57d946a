-- `hold_times`: each by its place. Assumes nothing.
use Rattle.profile_table.specs.Table.{hold_times_of}
use Rattle.profile_table.proofs.hold_times.Goals as goal

pub returns : goal.returns
unfolding hold_times_of
returns c = cc
