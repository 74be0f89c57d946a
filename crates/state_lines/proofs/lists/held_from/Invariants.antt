-- `state_lines::lists::held_from`: what is left to put.
use lib.ListN.{take, drop}
use Rattle.state_lines.specs.State.{held_word}
use Rattle.pieces.specs.Lists.{held_of}
use Rattle.text.specs.Buffer.{each}
use Rattle.text.proofs.Texts.{Rests}
use Rattle.state_lines.proofs.lists.held_from.Given as goal

abbrev pub invariant-loop-i : goal.invariant-loop-i
invariant-loop-i l =
    Rests l.initial.t (each held_word (drop l.from (held_of (take l.to l.off) (take l.to l.bits))))
    (each held_word (drop l.i (held_of (take l.to l.off) (take l.to l.bits)))) l.t
