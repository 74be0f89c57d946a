-- `state_lines::level` meets its contract.
use Rattle.state_lines.specs.State.{gear_of}
use Rattle.state_lines.proofs.level.Goals as goal

pub returns : goal.returns
unfolding gear_of
returns c =
    c.gear_line.ensures
