-- `codes`: each by its place. Assumes nothing.
use Rattle.profile_table.specs.Table.{codes_of}
use Rattle.profile_table.proofs.codes.Goals as goal

pub returns : goal.returns
unfolding codes_of
returns c = cc
