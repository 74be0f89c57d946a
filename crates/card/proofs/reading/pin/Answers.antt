-- `reading::pin` meets its contract, by what the calls ensure. Assumes nothing.
use Rattle.card.proofs.reading.pin.Goals as goal

pub returns : goal.returns
returns c =
    simp (
      c.load.ensures,
      c.flag.ensures,
    )
