use Prim.Native.Nat.{ℕ, ◌+◌}
use mathlib.Core.Path.{◌≡◌}
use lib.ListN.{length, take}
use Rattle.profile_table.specs.Table.{row_of, single_at}
use Rattle.profile_table.proofs.f32s.Given as goal

abbrev pub invariant-loop-l : goal.invariant-loop-l
invariant-loop-l l =
    (length l.x ≡ 17) × (take l.l l.x ≡ row_of (λ (k : ℕ). single_at l.v (l.from + k)) l.l)
