use mathlib.Core.Path.{◌≡◌}
use lib.ListN.{length}
use Rattle.laws.specs.Bytes.{overwrite}
use Rattle.adif.specs.Adif.{last_digits}
use Rattle.adif.proofs.put_digits.Given as goal

abbrev pub invariant-loop-i : goal.invariant-loop-i
invariant-loop-i l =
    (length l.out ≡ length l.initial.out) × (overwrite l.out l.at (last_digits l.i l.rest) ≡ overwrite l.initial.out l.at (last_digits l.k l.n))
