-- `lengths`: each by its place. Assumes nothing.
use Rattle.profile_table.specs.Table.{lengths_of}
use Rattle.profile_table.proofs.lengths.Goals as goal

pub returns : goal.returns
unfolding lengths_of
returns c = cc
