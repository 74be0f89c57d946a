use Prim.Native.Nat.{ℕ, ◌+◌, ◌*◌}
use mathlib.Core.Path.{◌≡◌}
use lib.ListN.{length, get_or, take}
use Rattle.profile_table.specs.Table.{row_of, or_most}
use Rattle.profile_table.proofs.u32s.Given as goal

abbrev pub invariant-loop-l : goal.invariant-loop-l
invariant-loop-l l =
    (length l.x ≡ 17) × (take l.l l.x ≡ row_of (λ (k : ℕ). or_most l.most (get_or l.v (l.from + 4 * k) 0)) l.l)
