-- `area::lookup::find` meets its contract.
use mathlib.Core.Bool.{true, cond}
use lib.Dec.{eqb}
use borrow.Author.Tests.{eq-eqb, ne_eqb}
use Prim.Native.Nat.{◌+◌, ◌-◌}
use Rattle.area.specs.Table.{rows_from}
use Rattle.area.specs.Find.{find_from}
use Rattle.area.proofs.lookup.Laws.{find-turn, find_none}
use mathlib.Core.Path.{◌≡◌, sym, ◌∙◌}
use native.Mathlib.Omega.{arith}
use Rattle.area.proofs.lookup.find.Lts as lts
use Rattle.area.proofs.lookup.find.Tie as tie
use Rattle.area.proofs.lookup.find.Reads as reads
use Rattle.area.proofs.lookup.find.Goals as goal

-- in a turn, once the row is loaded
turned : (d : lts.After-load_row tie.the-claims reads.Pre reads.Post goal.the-invariant-loop-i goal.the-decreases-loop-i) →
    let s = d.before.before.before.before in
    let p = d.loop-i in
    find_from s.args.off 0 (rows_from s.args.a.now 0 s.args.n)
    ≡ cond (eqb s.args.off d.load_row-r.result.off) (record { here = true; start = p.start; len = d.load_row-r.result.len })
    (find_from s.args.off (p.start + d.load_row-r.result.len) (rows_from s.args.a.now (p.i + 1) (s.args.n - (p.i + 1))))
turned d = d.loop-i.invariant.2 ∙ find-turn _ _ _ _ (omega arith) d.load_row-r.ensures _ _

pub returns-then-off-r : goal.returns-then-off-r
returns-then-off-r c = sym (turned c.before.before.before.before ∙ simp (eq-eqb _ _ c.if-off-r.true))

pub loop-i-preserved : goal.loop-i-preserved
loop-i-preserved c = (omega arith, omega arith, turned c.before.before.before.before ∙ simp (ne_eqb _ _ c.if-off-r.false))

pub returns : goal.returns
returns c = sym (c.loop-i.invariant.2 ∙ find_none _ _ _ _ _ (omega arith))
