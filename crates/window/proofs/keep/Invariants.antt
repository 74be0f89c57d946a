use Rattle.window.specs.Window.{keep_at}
use lib.ListN.{drop}
use Prim.Native.Nat.{◌+◌}
use mathlib.Core.Path.{◌≡◌}
use Rattle.window.proofs.keep.Given as goal

abbrev pub invariant-loop-j : goal.invariant-loop-j
invariant-loop-j l =
    keep_at (l.d + l.j) (drop l.j l.bytes) l.w ≡ keep_at l.d l.bytes l.initial.w
