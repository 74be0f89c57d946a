use Rattle.area.specs.Removal.{hash_all}
use mathlib.Core.Path.{◌≡◌}
use lib.ListN.{length, drop}
use Rattle.area.proofs.removal.hash.Given as goal

abbrev pub invariant-loop-o : goal.invariant-loop-o
invariant-loop-o l =
    (length l.hashes ≡ length l.initial.hashes) × (hash_all l.initial.hashes l.offs ≡ hash_all l.hashes (drop l.o-index l.offs))
