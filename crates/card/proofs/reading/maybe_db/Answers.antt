-- `reading::maybe_db` meets its contract, by what the calls ensure. Assumes nothing.
use Rattle.card.proofs.reading.maybe_db.Goals as goal

pub returns : goal.returns
returns c =
    simp (
      c.read.ensures,
      c.flag.ensures,
    )
