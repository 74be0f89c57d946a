-- `writing::put_doubles`: a row. Assumes nothing.
use mathlib.Core.Path.{refl}
use Rattle.card.specs.Card.{doubles, packed}
use Rattle.card.proofs.writing.put_doubles.Goals as goal

pub returns : goal.returns
unfolding doubles packed
returns c = (c.put_row.ensures, refl)
