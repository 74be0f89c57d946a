-- `transcript::burst::frames`: where the next frame starts, and what is left to put.
use Prim.Native.Nat.{◌≤◌, ◌*◌}
use mathlib.Core.Path.{◌≡◌}
use lib.ListN.{length, drop}
use Rattle.transcript.specs.Answers.{frame_entry}
use Rattle.text.specs.Buffer.{each}
use Rattle.laws.specs.Span.{upto}
use Rattle.text.proofs.Texts.{Rests}
use Rattle.transcript.proofs.burst.frames.Given as goal

abbrev pub invariant-loop-i : goal.invariant-loop-i
invariant-loop-i l =
    (l.from ≤ length l.out) × (drop l.from l.out ≡ drop (l.size * l.i) l.out)
    × Rests l.initial.t (each (frame_entry l.f l.size l.out) (upto 0 l.count)) (each (frame_entry l.f l.size l.out) (upto l.i l.count)) l.t
