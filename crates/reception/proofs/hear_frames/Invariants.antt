use Rattle.reception.proofs.Turns.{Hearing}
use Rattle.reception.proofs.hear_frames.Given as goal

abbrev pub invariant-loop-i : goal.invariant-loop-i
invariant-loop-i l =
    Hearing l.p l.h l.r l.payloads l.initial.q l.initial.a l.a l.q l.at l.i
