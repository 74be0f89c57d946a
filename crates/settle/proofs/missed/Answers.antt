-- `settle::missed` meets its contract.
use lib.ListN.{get_or}
use Rattle.record.specs.declared.AtPeer.{AtPeer}
use Rattle.pieces.specs.Lists.{held_of}
use Rattle.settle.specs.Settle.{with_more_held}
use Rattle.settle.proofs.Laws.{missed-yes, missed-no, missed-end, held-count, held-nil}
use mathlib.Core.Path.{refl, sym, ap, ◌∙◌}
use mathlib.Core.List.{[], ◌∷◌}
use native.Mathlib.Omega.{arith}
use Rattle.settle.proofs.missed.Goals as goal
use Rattle.settle.proofs.missed.Goals.{then-b-x, else-b-x}

pub loop-i-init : goal.loop-i-init
loop-i-init c = (omega (arith, c.requires.0), refl)

pub push-h-requires : goal.push-h-requires
push-h-requires c = omega (arith, c.loop-i-test.true, c.loop-i.invariant.0)

pub loop-i-preserved : goal.loop-i-preserved
loop-i-preserved c =
    let os = c.args.offs.now in
    let hs = c.args.held.now in
    let v = c.loop-i.invariant in
    elim c.if-b-x.branch [
      | then-b-x w ↦ rw w.h-is (
        omega (
          arith,
          c.loop-i-test.true,
          v.0,
          ap (λ (x : AtPeer). x.n) w.push-h.ensures,
          held-count c.loop-i.h (held_of (get_or os c.loop-i.i 0 ∷ []) (get_or hs c.loop-i.i 0 ∷ [])),
        ),
        v.1 ∙ missed-yes c.loop-i.b c.args.top os hs c.loop-i.i c.loop-i-test.true (omega (arith, c.loop-i-test.true, c.requires.1)) c.loop-i.h w.push-h.result w.if-b-x.true w.push-h.ensures,
      )
      | else-b-x w ↦ rw w.h-is (
        omega (arith, c.loop-i-test.true, v.0),
        v.1 ∙ ap (with_more_held c.loop-i.h) (missed-no c.loop-i.b c.args.top os hs c.loop-i.i c.loop-i-test.true (omega (arith, c.loop-i-test.true, c.requires.1)) w.if-b-x.false),
      )
    ]

pub returns : goal.returns
returns c =
    sym (c.loop-i.invariant.1 ∙ held-nil c.loop-i.h _ (missed-end c.loop-i.b c.args.top c.args.offs.now c.args.held.now c.loop-i.i c.loop-i-test.false))
