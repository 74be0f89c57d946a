-- `listed::profile_line`: each line by its number. Assumes nothing.
use Rattle.profile_table.proofs.Lines.{arm, level-line}
use Rattle.profile_table.proofs.listed.profile_line.Goals as goal

pub returns-then-k-lt17 : goal.returns-then-k-lt17
returns-then-k-lt17 c = arm _ c.args.k _ _ _ _ (level-line _ c.if-k-lt17.true)
    c.values.ensures

pub returns-then-k-le20 : goal.returns-then-k-le20
returns-then-k-le20 c = c.air_line.ensures

pub returns-then-k-le24 : goal.returns-then-k-le24
returns-then-k-le24 c = c.times_line.ensures

pub returns-then-k-le28 : goal.returns-then-k-le28
returns-then-k-le28 c = c.db_line.ensures

pub returns : goal.returns
returns c = c.option_line.ensures
