-- `reading::lengths` meets its contract, by what the calls ensure. Assumes nothing.
use Rattle.card.specs.Card.{lengths_in}
use Rattle.card.proofs.reading.lengths.Goals as goal

pub returns : goal.returns
unfolding lengths_in
returns c =
    simp (
      c.maybe_db.ensures,
      c.read-5.ensures,
      c.flag.ensures,
      c.read-4.ensures,
      c.read-3.ensures,
      c.read-2.ensures,
      c.read.ensures,
    )
