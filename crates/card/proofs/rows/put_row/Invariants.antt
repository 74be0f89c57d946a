use mathlib.Core.Path.{◌≡◌}
use mathlib.Core.List.{map}
use lib.ListN.{length, take}
use Rattle.laws.specs.Bytes.{overwrite}
use Rattle.card.specs.Card.{packed}
use Rattle.card.proofs.rows.put_row.Given as goal

abbrev pub invariant-loop-l : goal.invariant-loop-l
invariant-loop-l g l =
    (length l.out ≡ length l.initial.out)
    × (l.out ≡ overwrite l.initial.out l.at (packed g.T.Placed.BYTES (map g.T.Placed.number (take l.l l.x))))
