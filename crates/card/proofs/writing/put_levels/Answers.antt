-- `writing::put_levels`: the count and four rows. Assumes nothing.
use borrow.Author.Rules.{rules}
use Rattle.card.specs.Card.{levels_of, bits64}
use Rattle.card.proofs.Puts.{counted, joins, rowed, numbered}
use Rattle.card.proofs.writing.put_levels.Goals as goal

pub returns : goal.returns
unfolding levels_of
returns c =
    let c6 = c in
    let c12 = c6 in
    let c18 = c12 in
    let c24 = c18 in
    counted _ _ _ _ _ 408 c18.store.ensures
    (joins _ _ _ _ _ _ 68 340 (numbered _ _ _ 4 c24.args.a.slot_bits 17
    (search rules) c12.put_row.ensures)
    (joins _ _ _ _ _ _ 136 204 (rowed _ _ _ bits64 8 c24.args.a.pre_s 17
    (search rules) c12.put_row-2.ensures)
    (joins _ _ _ _ _ _ 136 68 (rowed _ _ _ bits64 8 c24.args.a.rate 17
    (search rules) c6.put_row-3.ensures)
    (numbered _ _ _ 4 c24.args.a.max_bits 17
    (search rules) c.put_row-4.ensures))))
