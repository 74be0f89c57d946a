-- `writing::put_thresholds`: the count and two sets. Assumes nothing.
use Rattle.card.specs.Card.{thresholds_of}
use Rattle.card.proofs.Puts.{counted, joins}
use Rattle.card.proofs.writing.put_thresholds.Goals as goal

pub returns : goal.returns
unfolding thresholds_of
returns c =
    let c6 = c in
    counted _ _ _ _ _ 144 c6.store.ensures
    (joins _ _ _ _ _ _ 72 72 c6.put_marks.ensures c.put_marks-2.ensures)
