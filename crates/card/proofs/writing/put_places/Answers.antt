-- `writing::put_places`: a row of flags. Assumes nothing.
use mathlib.Core.Path.{refl, ap, ◌∙◌}
use Rattle.laws.specs.Bytes.{overwrite}
use Rattle.card.specs.Card.{on_off_places}
use Rattle.card.proofs.Pack.{packed-flags}
use Rattle.card.proofs.writing.put_places.Goals as goal

pub returns : goal.returns
unfolding on_off_places
returns c = (c.put_row.ensures ∙ ap (overwrite c.args.out.now 736) (packed-flags (on_off_places c.args.p)), refl)
