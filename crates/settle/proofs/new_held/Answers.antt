-- `settle::new_held` meets its contract.
use lib.ListN.{take, length-drop, length-take}
use borrow.Author.Rules.{rules}
use Rattle.record.specs.View.{rest_in, held_in}
use Rattle.record.specs.declared.AtPeer.{AtPeer}
use Rattle.pieces.proofs.Lists.{held-length}
use Rattle.settle.specs.Settle.{held_none}
use Rattle.settle.proofs.Laws.{new_none, new-some, held-count}
use Prim.Native.Nat.{◌-◌}
use mathlib.Core.Path.{ap}
use native.Mathlib.Omega.{arith}
use Rattle.settle.proofs.new_held.Goals as goal

pub returns-then-not-keep : goal.returns-then-not-keep
returns-then-not-keep c = new_none _ _ _ _ _ c.if-not-keep.true

pub overflow_sub-k : goal.overflow_sub-k
overflow_sub-k c = c.requires.1

pub missed-requires : goal.missed-requires
missed-requires c =
    let h = c.args.h in (
      omega (
        arith,
        ap (λ (x : AtPeer). x.n) c.rest-kept.ensures,
        held-count (held_none h) (rest_in h),
        length-drop (h.n - h.rest) (held_in h),
        held-length (take h.n h.off) (take h.n h.bits) (omega (arith, length-take h.n h.off, length-take h.n h.bits)),
        length-take h.n h.off,
        length-take c.args.s.n c.args.s.off,
      ),
      search rules,
    )

pub returns : goal.returns
returns c = new-some _ _ _ _ _ _ _ c.if-not-keep.false c.rest-kept.ensures c.missed.ensures
