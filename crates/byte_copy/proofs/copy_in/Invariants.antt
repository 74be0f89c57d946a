use Rattle.laws.specs.Bytes.{overwrite}
use lib.ListN.{take}
use mathlib.Core.Path.{◌≡◌}
use Rattle.byte_copy.proofs.copy_in.Given as goal

abbrev pub invariant-loop-j : goal.invariant-loop-j
invariant-loop-j l =
    l.dst ≡ overwrite l.initial.dst l.at (take l.j l.src)
