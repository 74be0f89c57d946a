-- `state_lines::queue::rows`: what is left to put.
use Prim.Native.Nat.{◌-◌}
use Rattle.state_lines.specs.Queue.{message_word}
use Rattle.text.specs.Buffer.{each}
use Rattle.messages.specs.Messages.{entries_from}
use Rattle.text.proofs.Texts.{Rests}
use Rattle.state_lines.proofs.queue.rows.Given as goal

abbrev pub invariant-loop-i : goal.invariant-loop-i
invariant-loop-i l =
    Rests l.initial.t (each message_word (entries_from l.m 0 l.count))
    (each message_word (entries_from l.m l.i (l.count - l.i))) l.t
