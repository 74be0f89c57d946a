use Rattle.window.specs.Window.{lead, kept_byte}
use Rattle.laws.specs.Bytes.{overwrite}
use lib.ListN.{take, drop}
use mathlib.Core.List.{map}
use Prim.Native.Nat.{◌+◌}
use mathlib.Core.Path.{◌≡◌}
use Rattle.window.proofs.copy_out.Given as goal

abbrev pub invariant-loop-n : goal.invariant-loop-n
invariant-loop-n l =
    (l.n + lead (drop l.n l.w) ≡ lead l.w) × (l.out ≡ overwrite l.initial.out 0 (take l.n (map kept_byte l.w)))
