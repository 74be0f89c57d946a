-- The loop folds `turn` over the levels, by the marks that are taken out before it. A level's numbers are in
-- range, as `worth` asks.
use Rattle.std.proofs.Common.{◌<◌, sym, refl, ◌∙◌, arith}
use Rattle.laws.proofs.Span.{fold-turn, fold_done}
use Rattle.levels.proofs.rates.RateLaws.{paced}
use Rattle.gear.proofs.goodput.View.best.Goals as goal

pub overflow_add-l-end : goal.overflow_add-l-end
overflow_add-l-end c = omega (arith, c.requires.fact_2.top)

pub at-sight-requires : goal.at-sight-requires
at-sight-requires c = omega (arith, c.requires.fact_2.top)

pub at-requires : goal.at-requires
at-requires c = omega (arith, c.requires.fact_2.top)

pub at-requires-in-loop-l : goal.at-requires-in-loop-l
at-requires-in-loop-l c = omega (arith, c.requires.fact_2.top)

pub loop-l-init : goal.loop-l-init
loop-l-init c = (refl, refl)

pub weigh-best-requires : goal.weigh-best-requires
weigh-best-requires c =
    let s = c in
    let h : s.loop-l.l < 17 = omega (arith, s.requires.fact_2.top) in
    let k = paced s.args.cfg s.requires.fact_2 s.loop-l.l h in record {
      fact_1 = h;
      fact_2 = s.requires.fact_1;
      fact_3 = rw s.at-in-loop-l.ensures (record { usual = k.usual; pre = k.pre; rate = k.rate; cue = k.cue; slot = k.slot });
    }

pub loop-l-preserved : goal.loop-l-preserved
loop-l-preserved c =
    (fold-turn _ _ _ _ _ _ c.loop-l.invariant.0 (omega arith) (rw (c.at-sight.ensures, c.at.ensures, c.at-in-loop-l.ensures) at c.weigh-best.ensures), c.loop-l.invariant.1)

pub returns : goal.returns
returns c = sym (rw c.marks-marks.ensures at (c.loop-l.invariant.0 ∙ fold_done _ _ _ _ _ refl (omega arith)))
