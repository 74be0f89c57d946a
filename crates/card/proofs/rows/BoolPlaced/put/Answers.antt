-- `rows::bool` is written as a byte. Assumes nothing.
use mathlib.Core.Path.{ap, ◌∙◌}
use lib.ListN.{set}
use Rattle.card.proofs.Pack.{flag-put}
use Rattle.card.proofs.rows.BoolPlaced.put.Goals as goal

pub returns : goal.returns
returns c = ap (set c.args.out.now c.args.at) c.from.ensures ∙ flag-put c.args.out.now c.args.at c.args.self
