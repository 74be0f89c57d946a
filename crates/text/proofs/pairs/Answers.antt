-- `text::pairs` meets its contract.
use Prim.Native.Nat.{◌+◌}
use mathlib.Core.Path.{◌≡◌}
use mathlib.Core.List.{◌∷◌}
use lib.ListN.{get_or, drop, drop_of_length-le}
use native.Mathlib.Numerals.{add-one}
use lib.Seq.{drop-cons}
use Rattle.text.specs.Digits.{pair}
use Rattle.text.proofs.Laws.{appends, each_turn, each-end}
use Rattle.text.proofs.pairs.Goals as goal

pub loop-b-preserved : goal.loop-b-preserved
loop-b-preserved c =
    let a = c.args.a.now in
    let i = c.loop-b.b-index in
    let e : drop i a ≡ get_or a i 0 ∷ drop (i + 1) a = simp add-one (drop-cons a i 0 c.loop-b-test.true) in
    each_turn pair e c.loop-b.invariant (appends c.pair-n.ensures)

pub returns : goal.returns
returns c = each-end pair (drop_of_length-le _ c.loop-b-test.false) c.loop-b.invariant
