-- `state_lines::queue::messages` meets its contract.
use Prim.Native.Nat.{ℕ}
use mathlib.Core.Path.{ap}
use Rattle.text.specs.Buffer.{each}
use Rattle.messages.specs.Messages.{entries_from}
use Rattle.state_lines.specs.Queue.{message_word}
use Rattle.std.proofs.Common.{rules}
use Rattle.state_lines.specs.Queue.{messages_line}
use Rattle.text.proofs.Texts.{told, ◌⨾◌}
use Rattle.state_lines.proofs.queue.messages.Goals as goal

pub returns : goal.returns
unfolding messages_line
returns c =
    let words = λ (k : ℕ). each message_word (entries_from c.args.m 0 k) in
    let put =
    c.puts.ensures ⨾ c.number.ensures ⨾ c.flag.ensures ⨾ c.number-2.ensures
    ⨾ told c.rows.ensures (ap words c.min.ensures) ⨾ c.puts-2.ensures in
    search rules
