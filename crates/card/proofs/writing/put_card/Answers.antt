-- `writing::put_card`: the version and the sections. Assumes nothing.
use Rattle.card.specs.Card.{card_of}
use Rattle.card.proofs.Puts.{joins}
use Rattle.card.proofs.writing.put_card.Goals as goal

pub returns : goal.returns
unfolding card_of
returns c =
    let c6 = c in
    let c12 = c6 in
    let c18 = c12 in
    joins _ _ _ _ _ _ 1 750 c18.put_version.ensures
    (joins _ _ _ _ _ _ 410 340 c12.put_levels.ensures
    (joins _ _ _ _ _ _ 50 290 c6.put_waves.ensures
    (joins _ _ _ _ _ _ 146 144 c6.put_thresholds.ensures c.put_options.ensures)))
