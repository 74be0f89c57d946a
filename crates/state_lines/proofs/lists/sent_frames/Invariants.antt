-- `state_lines::lists::sent_frames`: what is left to put.
use lib.ListN.{take, drop}
use Rattle.state_lines.specs.State.{sent_word}
use Rattle.pieces.specs.Lists.{sent_of}
use Rattle.text.specs.Buffer.{each}
use Rattle.text.proofs.Texts.{Rests}
use Rattle.state_lines.proofs.lists.sent_frames.Given as goal

abbrev pub invariant-loop-i : goal.invariant-loop-i
invariant-loop-i l =
    Rests l.initial.t (each sent_word (sent_of (take l.to l.off) (take l.to l.bits) (take l.to l.held)))
    (each sent_word (drop l.i (sent_of (take l.to l.off) (take l.to l.bits) (take l.to l.held)))) l.t
