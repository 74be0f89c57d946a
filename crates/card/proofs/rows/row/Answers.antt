-- `rows::row`: values read in a row. Assumes nothing.
use borrow.Author.Rules.{rules}
use Rattle.card.proofs.Row.{row-made}
use Rattle.card.proofs.rows.row.Goals as goal

pub returns : goal.returns
returns g c =
    row-made _ _ g.T.Placed.meant g.T.Placed.BYTES c.args.a.now c.args.at (λ x b q k. search rules) g.row.N _ c.from_fn.ensures.items
