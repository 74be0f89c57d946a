use Rattle.messages.specs.Messages.{entries_in}
use Rattle.messages.specs.MessagesCode.{gone_in}
use Rattle.messages.proofs.Scan.{rest}
use mathlib.Core.Path.{◌≡◌}
use Rattle.messages.proofs.rows_gone.Given as goal

abbrev pub invariant-loop-rows : goal.invariant-loop-rows
invariant-loop-rows l =
    gone_in l.initial.k 0 l.m.begun (entries_in l.m) ≡ gone_in l.k l.rows l.begun (rest l.m l.n l.rows)
