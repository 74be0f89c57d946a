-- `state_lines::first` meets its contract.
use Rattle.text.specs.Words.{number_word, double_word}
use Rattle.state_lines.specs.State.{state_line}
use Rattle.text.proofs.Texts.{may, ◌⨾◌}
use Rattle.state_lines.proofs.first.Goals as goal

pub returns : goal.returns
unfolding state_line
returns c =
    let k = c.args.k in
    c.puts.ensures ⨾ c.number.ensures ⨾ c.number-2.ensures
    ⨾ may double_word k.connected c.args.burst_s c.maybe.ensures c.then_some.ensures ⨾ c.flag.ensures
    ⨾ c.flag-2.ensures ⨾ c.number-3.ensures ⨾ c.number-4.ensures
    ⨾ may number_word k.heard k.peer_heard c.maybe-2.ensures c.then_some-2.ensures
    ⨾ may double_word k.connected k.last_time c.maybe-3.ensures c.then_some-3.ensures ⨾ c.puts-2.ensures
