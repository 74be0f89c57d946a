-- `reading::marks` meets its contract, by what the calls ensure. Assumes nothing.
use Rattle.card.specs.Card.{marks_in}
use Rattle.card.proofs.reading.marks.Goals as goal

pub returns : goal.returns
unfolding marks_in
returns c =
    simp (
      c.read.ensures,
      c.row.ensures,
    )
