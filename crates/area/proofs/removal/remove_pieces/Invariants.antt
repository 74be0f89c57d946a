use Rattle.area.proofs.removal.Laws.{Removing}
use Rattle.area.proofs.removal.remove_pieces.Given as goal

abbrev pub invariant-loop-i : goal.invariant-loop-i
invariant-loop-i l =
    Removing l.initial.a l.n l.used l.gone l.a l.from l.to l.w l.i
