use native.Mathlib.Nat.{pos_of_ne-zero}
use borrow.Author.Tests.{eq-eqb, ne_eqb}
use lib.ListN.{drop_of_length-le, length}
use Rattle.harq.specs.Held.{increment_of}
use Rattle.harq.proofs.Search.{ahead, ahead-start, ahead-turn, ahead-end, nearer-above}
use Prim.Native.Nat.{◌≤◌, ◌<◌}
use mathlib.Core.Path.{refl, sym, ap, ◌∙◌}
use native.Mathlib.Omega.{arith}
use Rattle.harq.proofs.Harq.increment.Goals as goal

pub loop-e-init : goal.loop-e-init
unfolding increment_of
loop-e-init c = ((λ k. omega arith), ahead-start _ _ _)

pub loop-e-preserved : goal.loop-e-preserved
loop-e-preserved c =
    let p = c.loop-e in
    let k : p.e-index < length c.args.self.ends = omega arith in (
      rw c.nearer-best.ensures (nearer-above _ _ _ p.invariant.0),
      p.invariant.1 ∙ ahead-turn _ _ _ _ _ k ∙ rw c.nearer-best.ensures refl,
    )

pub returns-then-best-eq0 : goal.returns-then-best-eq0
returns-then-best-eq0 c =
    let p = c.loop-e in
    let z : length c.args.self.ends ≤ p.e-index = omega arith in
    sym (p.invariant.1 ∙ ap (ahead _ _ _) (drop_of_length-le _ z) ∙ ahead-end _ _ _ ∙ rw (eq-eqb _ _ c.if-best-eq0.true) refl)

pub overflow_sub-result : goal.overflow_sub-result
overflow_sub-result c = omega (arith, c.loop-e.invariant.0 (pos_of_ne-zero c.if-best-eq0.false))

pub returns : goal.returns
returns c =
    let p = c.loop-e in
    let z : length c.args.self.ends ≤ p.e-index = omega arith in
    sym (p.invariant.1 ∙ ap (ahead _ _ _) (drop_of_length-le _ z) ∙ ahead-end _ _ _ ∙ rw (ne_eqb _ _ c.if-best-eq0.false) refl)
