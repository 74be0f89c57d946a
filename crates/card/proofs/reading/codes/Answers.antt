-- `reading::codes` meets its contract, by what the calls ensure. Assumes nothing.
use Rattle.laws.proofs.Lists.{map-id}
use Rattle.card.specs.Card.{codes_in}
use Rattle.card.proofs.reading.codes.Goals as goal

pub returns : goal.returns
unfolding codes_in
returns c =
    simp (
      c.row.ensures,
      c.read.ensures,
      map-id,
    )
