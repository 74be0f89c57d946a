use Rattle.frames.proofs.slots.Laws.{Adding}
use Prim.Native.Nat.{◌+◌, ◌-◌}
use Rattle.frames.proofs.slots.new_pieces.Given as goal

abbrev pub invariant-loop-i : goal.invariant-loop-i
invariant-loop-i l =
    Adding l.initial.s l.initial.a l.n l.room l.max l.next l.at l.w l.bits l.a l.s (l.n + l.room - l.i) l.done l.i
