-- `state_lines::lists::rows`: what is left to put.
use Prim.Native.Nat.{◌-◌}
use Rattle.state_lines.specs.State.{piece_word}
use Rattle.text.specs.Buffer.{each}
use Rattle.area.specs.Table.{rows_from}
use Rattle.text.proofs.Texts.{Rests}
use Rattle.state_lines.proofs.lists.rows.Given as goal

abbrev pub invariant-loop-i : goal.invariant-loop-i
invariant-loop-i l =
    Rests l.initial.t (each piece_word (rows_from l.area 0 l.count))
    (each piece_word (rows_from l.area l.i (l.count - l.i))) l.t
