use Prim.Native.Nat.{ℕ, ◌+◌, ◌≤◌}
use mathlib.Core.Path.{◌≡◌}
use lib.ListN.{get_or}
use Rattle.laws.specs.Span.{upto, count}
use Rattle.window.specs.Window.{is_kept}
use Rattle.box_lines.specs.BoxLines.{kept_count}
use Rattle.box_lines.proofs.kept_count.Given as goal

abbrev pub invariant-loop-i : goal.invariant-loop-i
invariant-loop-i l =
    (kept_count l.w ≡ l.n + count (λ (j : ℕ). is_kept (get_or l.w j 0)) (upto l.i l.end)) × (l.n ≤ l.i)
