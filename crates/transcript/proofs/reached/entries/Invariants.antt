-- `transcript::reached::entries`: what is left to put.
use Rattle.transcript.specs.Answers.{level_entry}
use Rattle.text.specs.Buffer.{each}
use Rattle.laws.specs.Span.{upto}
use Rattle.text.proofs.Texts.{Rests}
use Rattle.transcript.proofs.reached.entries.Given as goal

abbrev pub invariant-loop-i : goal.invariant-loop-i
invariant-loop-i l = Rests l.initial.t (each (level_entry l.found) (upto 0 l.count)) (each (level_entry l.found) (upto l.i l.count)) l.t
