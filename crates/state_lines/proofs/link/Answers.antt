-- `state_lines::link` meets its contract.
use Rattle.state_lines.specs.State.{link_line}
use Rattle.text.proofs.Texts.{◌⨾◌}
use Rattle.state_lines.proofs.link.Goals as goal

pub returns : goal.returns
unfolding link_line
returns c =
    c.puts.ensures ⨾ c.flag.ensures ⨾ c.flag-2.ensures ⨾ c.flag-3.ensures ⨾ c.flag-4.ensures ⨾ c.number.ensures
    ⨾ c.single.ensures ⨾ c.flag-5.ensures ⨾ c.puts-2.ensures
