-- `writing::put_smalls`: three bytes and a number. Assumes nothing.
use mathlib.Core.Path.{refl, ap, ◌∙◌}
use native.Mathlib.Omega.{arith}
use lib.ListN.{length, length-set}
use Rattle.laws.proofs.Bytes.{length_over}
use Rattle.card.specs.Card.{smalls_of}
use Rattle.card.proofs.Pack.{small-run}
use Rattle.card.proofs.writing.put_smalls.Goals as goal

pub bounds-out-726 : goal.bounds-out-726
bounds-out-726 c = simp length-set (omega arith)

pub bounds-out-727 : goal.bounds-out-727
bounds-out-727 c = simp length-set (omega arith)

pub shape_of-out : goal.shape_of-out
shape_of-out c = ap length c.store.ensures ∙ length_over _ _ _ ∙ simp length-set

pub returns : goal.returns
unfolding smalls_of
returns c =
    let c6 = c in
    (c.store.ensures ∙ small-run c6.args.out.now 725 _ _ _ _, refl)
