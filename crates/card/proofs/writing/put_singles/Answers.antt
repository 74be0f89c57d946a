-- `writing::put_singles`: a row. Assumes nothing.
use mathlib.Core.Path.{refl}
use Rattle.card.specs.Card.{singles, packed}
use Rattle.card.proofs.writing.put_singles.Goals as goal

pub returns : goal.returns
unfolding singles packed
returns c = (c.put_row.ensures, refl)
