use Prim.Native.Nat.{ℕ, ◌+◌}
use mathlib.Core.Path.{◌≡◌, ap, ◌∙◌}
use native.Mathlib.Omega.{arith}
use Rattle.reachable.specs.Reachable.{chosen_by, lowest_of}
use Rattle.reachable.proofs.Steps.{lowest_from, chosen, noted-none, noted}
use Rattle.reachable.proofs.lowest_q.Goals as goal

pub loop-q-init : goal.loop-q-init
loop-q-init c = (omega arith, omega arith, noted-none _ _ _ (omega arith))

pub offset_bounds-lowest-l : goal.offset_bounds-lowest-l
offset_bounds-lowest-l c = omega (arith, (chosen _ _ _ _ _ _ _ (omega arith) c.snr_from_q.ensures c.level_for-l.ensures).0)

pub bounds-lowest-l : goal.bounds-lowest-l
bounds-lowest-l c = (chosen _ _ _ _ _ _ _ (omega arith) c.snr_from_q.ensures c.level_for-l.ensures).0

pub loop-q-preserved : goal.loop-q-preserved
loop-q-preserved c =
    let k = chosen _ _ _ _ _ _ _ (omega arith) c.snr_from_q.ensures c.level_for-l.ensures in
    (omega arith, omega arith, noted _ _ _ _ _ _ (omega arith) (omega arith) k.0 k.1 c.loop-q.invariant.2)

pub returns : goal.returns
unfolding lowest_of
returns c =
    let a = c.args in
    let e : c.loop-q.q ≡ a.low = omega arith in
    c.loop-q.invariant.2 ∙ ap (λ (k : ℕ). lowest_from (chosen_by a.marks a.power a.class a.top) k (a.high + 1)) e
