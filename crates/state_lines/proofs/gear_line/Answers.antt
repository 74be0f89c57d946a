-- `state_lines::gear_line` meets its contract.
use Rattle.text.specs.Words.{single_word}
use Rattle.text.proofs.Texts.{may, ◌⨾◌}
use Rattle.state_lines.proofs.gear_line.Goals as goal

pub returns : goal.returns
returns c =
    c.puts.ensures ⨾ c.number.ensures
    ⨾ may single_word c.args.tried c.args.success c.maybe.ensures c.then_some.ensures ⨾ c.double.ensures
    ⨾ c.number-2.ensures ⨾ c.double-2.ensures ⨾ c.flag.ensures ⨾ c.puts-2.ensures
