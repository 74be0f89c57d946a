-- `writing::put_wholes`: two rows. Assumes nothing.
use mathlib.Core.Path.{refl}
use mathlib.Core.List.{[], ◌∷◌}
use borrow.Author.Rules.{rules}
use Rattle.card.proofs.Puts.{joins, numbered, merged}
use Rattle.card.proofs.writing.put_wholes.Goals as goal

pub returns : goal.returns
returns c =
    let c6 = c in
    let c12 = c6 in
    merged _ _ _ 4 (c12.args.short ∷ c12.args.long ∷ c12.args.q.mother ∷ []) c12.args.q.ends 36
    (joins _ _ _ _ _ _ 12 24 (numbered _ _ _ 4 (c12.args.short ∷ c12.args.long ∷ c12.args.q.mother ∷ []) 3 refl
    c6.put_row.ensures)
    (numbered _ _ _ 4 c12.args.q.ends 6 (search rules)
    c.put_row-2.ensures))
