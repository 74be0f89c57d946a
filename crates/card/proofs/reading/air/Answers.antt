-- `reading::air` meets its contract, by what the calls ensure. Assumes nothing.
use Rattle.laws.proofs.Lists.{map-id}
use Rattle.card.specs.Card.{air_in}
use Rattle.card.proofs.reading.air.Goals as goal

pub returns : goal.returns
unfolding air_in
returns c =
    simp (
      c.read.ensures,
      c.row-5.ensures,
      c.row-4.ensures,
      c.row-3.ensures,
      c.row-2.ensures,
      c.row.ensures,
      map-id,
    )
