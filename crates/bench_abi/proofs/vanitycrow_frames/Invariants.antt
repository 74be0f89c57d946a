use mathlib.Core.Path.{◌≡◌}
use lib.ListN.{length}
use Rattle.laws.specs.Steps.{steps}
use Rattle.frame.specs.Table.{table_of}
use Rattle.bench_abi.specs.Burst.{frame_at}
use Rattle.bench_abi.proofs.vanitycrow_frames.Given as goal

abbrev pub invariant-loop-i : goal.invariant-loop-i
invariant-loop-i l =
    (l.out ≡ steps (frame_at l.size l.payload) l.i l.initial.out) × (length l.out ≡ length l.initial.out) × (l.t ≡ table_of)
