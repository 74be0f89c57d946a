use mathlib.Core.Path.{◌≡◌}
use Prim.Native.Nat.{◌-◌, ◌≤◌}
use lib.ListN.{length}
use Rattle.call_lines.specs.CallLines.{frame_words_from}
use Rattle.call_lines.proofs.frames_words.Given as goal

abbrev pub invariant-loop-i : goal.invariant-loop-i
invariant-loop-i l =
    (l.g.used ≤ length l.bytes) × ((length l.bytes ≡ length l.initial.bytes)
    × (frame_words_from l.line (l.n - l.i) l.i (l.g, l.bytes) ≡ frame_words_from l.line l.n 0 (l.initial.g, l.initial.bytes)))
