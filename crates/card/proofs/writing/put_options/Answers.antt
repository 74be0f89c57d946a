-- `writing::put_options`: the count and the groups. Assumes nothing.
use Rattle.card.specs.Card.{options_of, whole_numbers}
use Rattle.card.proofs.Puts.{counted, joins}
use Rattle.card.proofs.writing.put_options.Goals as goal

pub returns : goal.returns
unfolding options_of whole_numbers
returns c =
    let c6 = c in
    let c12 = c6 in
    let c18 = c12 in
    counted _ _ _ _ _ 142 c18.store.ensures
    (joins _ _ _ _ _ _ 64 78 c18.put_doubles.ensures
    (joins _ _ _ _ _ _ 36 42 c12.put_wholes.ensures
    (joins _ _ _ _ _ _ 16 26 c6.put_singles.ensures
    (joins _ _ _ _ _ _ 11 15 c6.put_smalls.ensures c.put_places.ensures))))
