-- `messages::fly` meets its contract.
use Prim.Native.Nat.{◌≤◌}
use mathlib.Core.Path.{◌∙◌}
use borrow.Author.Rules.{rules}
use Rattle.messages.proofs.Flown.{rows-within, fly-cut}
use Rattle.messages.proofs.fly.Goals as goal

pub cut_to-requires : goal.cut_to-requires
cut_to-requires c =
    let a = c.args in
    let h : c.rows_gone-g.result.rows ≤ a.m.n = rw c.rows_gone-g.ensures (rows-within a.m a.k) in
    (h, search rules)

pub returns : goal.returns
returns c = c.cut_to.ensures ∙ fly-cut c.args.m c.args.k c.rows_gone-g.result c.rows_gone-g.ensures
