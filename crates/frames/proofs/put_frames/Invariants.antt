use Rattle.laws.specs.Bytes.{overwrite}
use Rattle.frames.specs.Slots.{slots_from}
use Rattle.frames.specs.Frames.{frames_written, SlotsFit}
use Prim.Native.Nat.{◌+◌, ◌-◌, ◌≤◌}
use mathlib.Core.Path.{◌≡◌}
use lib.ListN.{length}
use Rattle.frames.proofs.put_frames.Given as goal

abbrev pub invariant-loop-i : goal.invariant-loop-i
invariant-loop-i l =
    (l.i ≤ l.n) × (length l.out ≡ length l.initial.out) × (l.at + length (frames_written l.size (slots_from l.s l.i (l.n - l.i)) l.a) ≤ length l.initial.out) × SlotsFit l.size (length l.a) (slots_from l.s l.i (l.n - l.i))
    × (overwrite l.initial.out 0 (frames_written l.size (slots_from l.s 0 l.n) l.a) ≡ overwrite l.out l.at (frames_written l.size (slots_from l.s l.i (l.n - l.i)) l.a))
