-- `frames_at`: what is stored, with the frames ahead behind it, is the whole.
use mathlib.Core.Path.{◌≡◌}
use Prim.Native.Nat.{◌*◌, ◌≤◌}
use lib.ListN.{drop}
use Rattle.laws.specs.Bytes.{overwrite}
use Rattle.box_calls.specs.BoxCalls.{frames_at}
use Rattle.box_calls.proofs.frames_at.Given as goal

abbrev pub invariant-loop-place : goal.invariant-loop-place
invariant-loop-place l =
    (overwrite l.initial.bytes 0 (frames_at l.size l.sent l.places)
    ≡ overwrite l.bytes l.used (frames_at l.size l.sent (drop l.place-index l.places)))
    × (l.used ≤ 512 * l.place-index)
