use Rattle.queuing.proofs.Gaps.{Closing}
use Rattle.queuing.proofs.close_gaps.Given as goal

abbrev pub invariant-loop-i : goal.invariant-loop-i
invariant-loop-i l =
    Closing l.m l.label l.first l.initial.a l.a l.begun l.to l.from l.i
