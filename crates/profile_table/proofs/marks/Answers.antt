-- `marks`: each by its place. Assumes nothing.
use Rattle.profile_table.specs.Table.{marks_from}
use Rattle.profile_table.proofs.marks.Goals as goal

pub returns : goal.returns
unfolding marks_from
returns c = cc
