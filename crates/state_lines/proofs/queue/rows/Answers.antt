-- `state_lines::queue::rows` meets its contract.
use Prim.Native.Nat.{ℕ, ◌-◌}
use mathlib.Core.Path.{◌≡◌, ap}
use native.Mathlib.Omega.{arith}
use Rattle.state_lines.specs.Queue.{message_word}
use Rattle.text.specs.Buffer.{each}
use Rattle.messages.specs.Messages.{entries_from}
use Rattle.messages.proofs.Entries.{entries-step, entries_none}
use Rattle.text.proofs.Texts.{begun, turn, ended}
use Rattle.state_lines.proofs.queue.rows.Goals as goal

pub loop-i-init : goal.loop-i-init
loop-i-init c =
    let a = c.args in
    let e : a.count ≡ a.count - 0 = omega arith in
    begun _ (ap (λ (k : ℕ). each message_word (entries_from a.m 0 k)) e)

pub loop-i-preserved : goal.loop-i-preserved
loop-i-preserved c =
    let a = c.args in
    turn message_word (entries-step a.m c.loop-i.i a.count (omega arith)) c.loop-i.invariant c.row.ensures

pub returns : goal.returns
returns c =
    let a = c.args in
    ended message_word (entries_none a.m c.loop-i.i a.count (omega arith)) c.loop-i.invariant
