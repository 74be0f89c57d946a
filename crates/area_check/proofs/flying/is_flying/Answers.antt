-- `area_check::flying::is_flying` meets its contract.
use Prim.Native.Nat.{◌/◌, ◌+◌, ◌-◌, ◌<◌}
use Rattle.area_check.proofs.flying.Laws.{many, found_here, none_below, none_above, not_there}
use mathlib.Core.Path.{◌≡◌, refl, ap}
use native.Mathlib.Omega.{arith}
use Rattle.area_check.proofs.flying.is_flying.Lts as lts
use Rattle.area_check.proofs.flying.is_flying.Tie as tie
use Rattle.area_check.proofs.flying.is_flying.Reads as reads
use Rattle.area_check.proofs.flying.is_flying.Goals as goal

mid-in : (d : lts.After-load_row tie.the-claims reads.Pre reads.Post goal.the-invariant-loop-low goal.the-decreases-loop-low) → let p = d.before.before in p.loop-low.low + (p.loop-low.high - p.loop-low.low) / 2 < p.args.n
mid-in d = let p = d.before.before in omega (arith, d.loop-low-test.true, p.loop-low.invariant.1)

pub loop-low-init : goal.loop-low-init
loop-low-init c = (omega arith, omega arith, refl, ap (many c.args.a.now c.args.n c.args.off c.args.n) (let z : c.args.n - c.args.n ≡ 0 = omega arith in z))

pub returns-then-r-off : goal.returns-then-r-off
returns-then-r-off c = found_here _ _ _ _ _ (mid-in c.before.before.before) c.load_row-r.ensures c.if-r-off.true

pub loop-low-preserved-then-r-off-2 : goal.loop-low-preserved-then-r-off-2
loop-low-preserved-then-r-off-2 c = (omega (arith, c.loop-low-test.true), omega (arith, mid-in c.before.before.before.before.before), none_below _ _ _ _ _ (mid-in c.before.before.before.before.before) c.load_row-r.ensures _ _ c.requires.2 c.if-r-off-2.true, c.loop-low.invariant.3)

pub loop-low-preserved : goal.loop-low-preserved
loop-low-preserved c = (omega (arith, c.loop-low-test.true), omega (arith, mid-in c.before.before.before.before.before), c.loop-low.invariant.2, none_above _ _ _ _ _ (mid-in c.before.before.before.before.before) c.load_row-r.ensures _ _ c.requires.2 c.if-r-off-2.false c.if-r-off.false)

pub returns : goal.returns
returns c = let l : c.loop-low.low ≡ c.loop-low.high = omega (arith, c.loop-low-test.false, c.loop-low.invariant.0) in not_there c.args.a.now c.args.n c.args.off c.loop-low.low (omega (arith, c.loop-low.invariant.1)) c.loop-low.invariant.2 (rw l c.loop-low.invariant.3)
