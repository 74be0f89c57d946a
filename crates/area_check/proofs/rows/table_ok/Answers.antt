-- `area_check::rows::table_ok` meets its contract.
use mathlib.Core.Bool.{◌&&◌}
use lib.Dec.{leb, ltb}
use Prim.Native.Nat.{ℕ, ◌+◌, ◌-◌, ◌≤◌, ◌<◌}
use native.Mathlib.Nat.{add-zero, div-le_self}
use borrow.Author.Tests.{lt-ltb, le-ltb, le-leb, lt-leb, eq-eqb, ne_eqb}
use Rattle.ledger.specs.Cover.{ceil}
use mathlib.Core.List.{List}
use Rattle.area.specs.declared.table.Row.{Row}
use Rattle.area.specs.Table.{row_at, rows_from, total}
use Rattle.area_check.specs.Rows.{ascends, short_frames_of, table_ok}
use Rattle.area_check.proofs.rows.Laws.{ascends-turn, total-turn, short-turn}
use Rattle.area.proofs.table.Laws.{rows_none}
use mathlib.Core.Path.{◌≡◌, ◌∙◌}
use native.Mathlib.Omega.{arith}
use Rattle.area_check.proofs.rows.table_ok.Goals as goal

-- in a turn, once the row is loaded
ascends-turned : (long next from n i : ℕ) (a : List ℕ) (r : Row) → ascends long next 0 (rows_from a 0 n) ≡ ascends long next from (rows_from a i (n - i))
    → i < n → r ≡ row_at a i
    → ascends long next 0 (rows_from a 0 n)
    ≡ (leb from r.off && (ltb 0 r.len && (leb r.len long && ascends long next (r.off + r.len) (rows_from a (i + 1) (n - (i + 1))))))
ascends-turned long next from n i a r v h e = v ∙ ascends-turn _ _ _ _ h e _ _ _

pub returns-then-off-from : goal.returns-then-off-from
unfolding table_ok
returns-then-off-from c =
    let h : c.loop-i.i < c.args.n = omega arith in
    simp (ascends-turned _ _ _ _ _ _ _ c.loop-i.invariant.4 h c.load_row-r.ensures, lt-leb _ _ c.if-off-from.true)

pub returns-then-len-eq0 : goal.returns-then-len-eq0
unfolding table_ok
returns-then-len-eq0 c =
    let h : c.loop-i.i < c.args.n = omega arith in
    let z : c.load_row-r.result.len ≤ 0 = omega arith in
    simp (ascends-turned _ _ _ _ _ _ _ c.loop-i.invariant.4 h c.load_row-r.ensures, le-leb _ _ c.if-off-from.false, le-ltb _ _ z)

pub returns-then-long-r : goal.returns-then-long-r
unfolding table_ok
returns-then-long-r c =
    let h : c.loop-i.i < c.args.n = omega arith in
    let z : 0 < c.load_row-r.result.len = omega arith in
    simp (ascends-turned _ _ _ _ _ _ _ c.loop-i.invariant.4 h c.load_row-r.ensures, le-leb _ _ c.if-off-from.false, lt-ltb _ _ z, lt-leb _ _ c.if-long-r.true)

-- a row's short frames
low : (len short : ℕ) → ceil len short ≤ len + (short - 1)
low len short = div-le_self (len + (short - 1)) short

pub loop-i-preserved : goal.loop-i-preserved
loop-i-preserved c =
    let h : c.loop-i.i < c.args.n = omega arith in
    let z : 0 < c.load_row-r.result.len = omega arith in
    let k = low c.load_row-r.result.len c.args.short in (
      omega arith,
      omega arith,
      omega arith,
      omega arith,
      ascends-turned _ _ _ _ _ _ _ c.loop-i.invariant.4 h c.load_row-r.ensures ∙ simp (le-leb _ _ c.if-off-from.false, lt-ltb _ _ z, le-leb _ _ c.if-long-r.false),
      omega (arith, total-turn _ _ _ _ h c.load_row-r.ensures),
      omega (arith, c.shorts_of-shorts.ensures, k, short-turn _ _ _ _ h c.load_row-r.ensures c.args.short),
    )

pub returns-then-next-from : goal.returns-then-next-from
unfolding table_ok ascends total short_frames_of
returns-then-next-from c =
    let h : c.args.n ≤ c.loop-i.i = omega arith in
    simp (c.loop-i.invariant.4, rows_none c.args.a.now c.loop-i.i c.args.n h, lt-leb _ _ c.if-next-from.true)

pub returns-then-sum-flying : goal.returns-then-sum-flying
unfolding table_ok ascends total short_frames_of
returns-then-sum-flying c =
    let h : c.args.n ≤ c.loop-i.i = omega arith in
    let z = rows_none c.args.a.now c.loop-i.i c.args.n h in
    simp (c.loop-i.invariant.4, c.loop-i.invariant.5, z, le-leb _ _ c.if-next-from.false, add-zero, ne_eqb _ _ c.if-sum-flying.true)

pub returns : goal.returns
unfolding table_ok ascends total short_frames_of
returns c =
    let h : c.args.n ≤ c.loop-i.i = omega arith in
    let z = rows_none c.args.a.now c.loop-i.i c.args.n h in
    simp (c.loop-i.invariant.4, c.loop-i.invariant.5, c.loop-i.invariant.6, z, le-leb _ _ c.if-next-from.false, add-zero, eq-eqb _ _ c.if-sum-flying.false)
