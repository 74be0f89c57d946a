-- `area::removal::hash` meets its contract.
use Rattle.area.proofs.removal.Laws.{hash-turn, hash-end}
use Prim.Native.Nat.{◌<◌, ◌≤◌}
use mathlib.Core.Path.{sym, ◌∙◌}
use native.Mathlib.Omega.{arith}
use lib.ListN.{length, length-set}
use Rattle.area.proofs.removal.hash.Goals as goal

pub loop-o-preserved : goal.loop-o-preserved
loop-o-preserved c =
    let p = c in
    let h : c.loop-o.o-index < length c.args.offs.now = omega arith in
    (simp length-set p.loop-o.invariant.0, p.loop-o.invariant.1 ∙ hash-turn _ _ _ _ h c.hash_place-k.ensures.0)

pub returns : goal.returns
returns c = let p = c in let h : length c.args.offs.now ≤ c.loop-o.o-index = omega arith in sym (p.loop-o.invariant.1 ∙ hash-end _ _ _ h)
