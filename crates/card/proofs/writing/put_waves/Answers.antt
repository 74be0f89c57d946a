-- `writing::put_waves`: the count and a row. Assumes nothing.
use borrow.Author.Rules.{rules}
use Rattle.card.specs.Card.{waves_of, bits64}
use Rattle.card.proofs.Puts.{counted, rowed}
use Rattle.card.proofs.writing.put_waves.Goals as goal

pub returns : goal.returns
unfolding waves_of
returns c =
    let c6 = c in
    counted _ _ _ _ _ 48 c6.store.ensures
    (rowed _ _ _ bits64 8 c6.args.a.ack_s 6
    (search rules) c.put_row.ensures)
