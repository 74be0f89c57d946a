-- `state_lines::reports` meets its contract.
use Rattle.state_lines.specs.State.{reports}
use Rattle.text.proofs.Texts.{◌⨾◌}
use Rattle.state_lines.proofs.reports.Goals as goal

pub returns : goal.returns
unfolding reports
returns c =
    c.if_set.ensures ⨾ c.if_set-2.ensures ⨾ c.if_set-3.ensures
