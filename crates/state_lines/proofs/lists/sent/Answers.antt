-- `state_lines::lists::sent` meets its contract.
use Rattle.state_lines.specs.State.{sent_line}
use Rattle.text.proofs.Texts.{◌⨾◌}
use Rattle.state_lines.proofs.lists.sent.Goals as goal

pub returns : goal.returns
unfolding sent_line
returns c =
    c.puts.ensures ⨾ c.number.ensures ⨾ c.sent_frames.ensures ⨾ c.puts-2.ensures
