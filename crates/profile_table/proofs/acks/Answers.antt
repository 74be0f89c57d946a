-- `acks`: each by its place. Assumes nothing.
use Rattle.profile_table.specs.Table.{air_of}
use Rattle.profile_table.proofs.acks.Goals as goal

pub returns : goal.returns
unfolding air_of
returns c = cc
