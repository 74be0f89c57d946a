use lib.ListN.{drop}
use Rattle.area_check.specs.Rows.{none_listed}
use mathlib.Core.Path.{◌≡◌}
use Rattle.area_check.proofs.unlisted.none_listed.Given as goal

abbrev pub invariant-loop-x : goal.invariant-loop-x
invariant-loop-x l =
    none_listed l.xs l.ys ≡ none_listed (drop l.x-index l.xs) l.ys
