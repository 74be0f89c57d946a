-- `rows::put_row`: values written in a row. Assumes nothing.
use Prim.Native.Nat.{◌+◌, ◌*◌}
use mathlib.Core.Path.{refl, sym, ap, ◌∙◌}
use lib.ListN.{length}
use Rattle.laws.specs.Bytes.{overwrite}
use Rattle.laws.specs.Little.{le}
use Rattle.laws.proofs.Bytes.{length_over, over-nil}
use Rattle.card.specs.Card.{packed}
use Rattle.card.proofs.Pack.{put-turn}
use Rattle.card.proofs.rows.put_row.Goals as goal

pub loop-l-init : goal.loop-l-init
unfolding packed
loop-l-init g c = (refl, sym (over-nil _ _))

pub loop-l-preserved : goal.loop-l-preserved
loop-l-preserved g c =
    let l = c.loop-l in
    let k = g.T.Placed.BYTES in
    let number = g.T.Placed.number in (
      ap length c.put.ensures ∙ length_over _ _ _ ∙ l.invariant.0,
      c.put.ensures
          ∙ (λ j. overwrite (l.invariant.1 j) (c.args.at + c.BYTES.ensures j * l.l) (le k (number (c.index-x-l.is j))))
          ∙ put-turn number c.args.out.now c.args.at c.args.x.now l.l k c.index-x-l.result c.loop-l-test.true,
    )
