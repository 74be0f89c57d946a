-- `settle::rest` meets its contract.
use lib.ListN.{get_or}
use Rattle.record.specs.declared.AtPeer.{AtPeer}
use Rattle.pieces.specs.Lists.{held_of}
use Rattle.settle.proofs.Laws.{rest-turn, rest_end, held-count, held-nil}
use mathlib.Core.Path.{refl, sym, ap, ◌∙◌}
use mathlib.Core.List.{[], ◌∷◌}
use native.Mathlib.Omega.{arith}
use Rattle.settle.proofs.rest.Goals as goal

pub loop-i-init : goal.loop-i-init
loop-i-init c = (omega (arith, c.requires.0), refl)

pub push-h-requires : goal.push-h-requires
push-h-requires c = omega (arith, c.loop-i-test.true, c.loop-i.invariant.0)

pub loop-i-preserved : goal.loop-i-preserved
loop-i-preserved c =
    let os = c.args.offs.now in
    let bs = c.args.bits.now in (
      omega (
        arith,
        c.loop-i-test.true,
        c.loop-i.invariant.0,
        ap (λ (x : AtPeer). x.n) c.push-h.ensures,
        held-count c.loop-i.h (held_of (get_or os c.loop-i.i 0 ∷ []) (get_or bs c.loop-i.i 0 ∷ [])),
      ),
      c.loop-i.invariant.1
          ∙ rest-turn os bs c.loop-i.i c.loop-i.h c.push-h.result c.loop-i-test.true (omega (arith, c.loop-i-test.true, c.requires.1)) c.push-h.ensures,
    )

pub returns : goal.returns
returns c =
    sym (c.loop-i.invariant.1 ∙ held-nil c.loop-i.h _ (rest_end c.args.offs.now c.args.bits.now c.loop-i.i c.loop-i-test.false))
