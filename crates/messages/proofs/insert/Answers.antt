-- `messages::insert` meets its contract. The invariant: the rows from `row` to before i are copied one up. Then the new one is put before them.
use Rattle.messages.specs.Messages.{entry_of}
use Rattle.messages.proofs.Entries.{moved, moved_none, moved-turn, insert-done}
use Prim.Native.Nat.{◌+◌}
use mathlib.Core.Path.{◌≡◌, ap, ◌∙◌}
use native.Mathlib.Omega.{arith}
use borrow.Author.Rules.{rules}
use Rattle.messages.proofs.insert.Goals as goal

pub loop-i-init : goal.loop-i-init
loop-i-init c = (omega arith, moved_none c.args.m (c.args.row + 1) c.args.row)

pub loop-i-preserved : goal.loop-i-preserved
loop-i-preserved c =
    let a = c.args in
    (omega arith, moved-turn a.m c.loop-i.out (a.row + 1) a.row c.loop-i.i (c.loop-i.i + 1) c.loop-i.invariant.0 (omega arith) c.loop-i.invariant.1)

pub returns : goal.returns
returns c =
    let a = c.args in
    let e : c.loop-i.i ≡ a.m.n = omega arith in
    insert-done a.m c.loop-i.out a.row (entry_of a.left a.class a.label) (search rules) (c.loop-i.invariant.1 ∙ ap (moved a.m (a.row + 1) a.row) e)
