-- `reading::hold_times` meets its contract, by what the calls ensure. Assumes nothing.
use Rattle.card.specs.Card.{holds_in}
use Rattle.card.proofs.reading.hold_times.Goals as goal

pub returns : goal.returns
unfolding holds_in
returns c =
    simp (
      c.read-3.ensures,
      c.read-2.ensures,
      c.read.ensures,
    )
