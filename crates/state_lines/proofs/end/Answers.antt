-- `state_lines::end` meets its contract.
use Rattle.std.proofs.Common.{rules}
use Rattle.text.proofs.Texts.{◌⨾◌}
use Rattle.state_lines.proofs.end.Goals as goal

pub returns : goal.returns
returns c =
    let put =
    c.puts.ensures ⨾ c.tally.ensures ⨾ c.puts-2.ensures in
    search rules
