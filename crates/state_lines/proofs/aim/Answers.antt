-- `state_lines::aim` meets its contract.
use Rattle.text.specs.Words.{single_word}
use Rattle.state_lines.specs.State.{aim_line}
use Rattle.text.proofs.Texts.{may, ◌⨾◌}
use Rattle.state_lines.proofs.aim.Goals as goal

pub returns : goal.returns
unfolding aim_line
returns c =
    let a = c.args.g.aim_db in
    let last = c.args.g.last_report_db in
    c.puts.ensures ⨾ may single_word a.set a.db c.maybe.ensures c.then_some.ensures
    ⨾ may single_word last.set last.db c.maybe-2.ensures c.then_some-2.ensures ⨾ c.reports.ensures
    ⨾ c.puts-2.ensures
