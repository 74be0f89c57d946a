-- `state_lines::levels`: what is left to put.
use Rattle.state_lines.specs.State.{gear_of}
use Rattle.text.specs.Buffer.{each}
use Rattle.laws.specs.Span.{upto}
use Rattle.text.proofs.Texts.{Rests}
use Rattle.state_lines.proofs.levels.Given as goal

abbrev pub invariant-loop-l : goal.invariant-loop-l
invariant-loop-l l =
    Rests l.initial.t (each (gear_of l.g) (upto 0 17)) (each (gear_of l.g) (upto l.l 17)) l.t
