-- `state_lines::state` meets its contract.
use Rattle.std.proofs.Common.{rules}
use Rattle.state_lines.specs.State.{state_lines}
use Rattle.text.proofs.Texts.{◌⨾◌}
use Rattle.state_lines.proofs.state.Goals as goal

pub returns : goal.returns
unfolding state_lines
returns c =
    let put =
    c.first.ensures ⨾ c.link.ensures ⨾ c.aim.ensures ⨾ c.levels.ensures ⨾ c.counts.ensures ⨾ c.pieces.ensures
    ⨾ c.held.ensures ⨾ c.rest.ensures ⨾ c.sent.ensures in
    search rules
