use Rattle.frames.proofs.slots.Laws.{Choosing}
use Rattle.frames.proofs.slots.old_pieces.Given as goal

abbrev pub invariant-loop-i : goal.invariant-loop-i
invariant-loop-i l =
    Choosing l.initial.s l.a l.n l.held l.room l.bits l.s l.left l.start l.i
