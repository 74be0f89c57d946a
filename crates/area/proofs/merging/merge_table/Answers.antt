-- `area::merging::merge_table` meets its contract.
use Rattle.laws.specs.Bytes.{overwrite}
use Rattle.laws.proofs.Bytes.{over-nil}
use Rattle.area.specs.Layout.{place}
use Rattle.area.specs.Table.{rows_from, table_bytes}
use Rattle.area.specs.declared.table.Row.{Row}
use Rattle.area.specs.Recut.{merge_rows_from, merge_rows, merge_table}
use Rattle.area.proofs.merging.Laws.{merge-join, merge-store, merge_less}
use native.Mathlib.Nat.{zero-add, add_assoc}
use Prim.Native.Nat.{ℕ, suc, ◌+◌, ◌-◌, ◌<◌}
use mathlib.Core.Path.{◌≡◌, refl, sym, ap, ap₂, ◌∙◌}
use mathlib.Core.List.{List, [], ◌∷◌}
use native.Mathlib.Omega.{arith}
use lib.ListN.{length}
use Rattle.area.proofs.merging.merge_table.Goals as goal
use Rattle.area.proofs.merging.merge_table.Goals.{then-joins, else-joins}

pub returns-then-n-eq0 : goal.returns-then-n-eq0
unfolding merge_rows merge_table
returns-then-n-eq0 c = rw c.if-n-eq0.true (ap (λ (b : List ℕ). (0, b)) (sym (over-nil _ _)))

pub loop-i-init : goal.loop-i-init
unfolding merge_rows
loop-i-init c =
    let s = c in
    let e : s.args.n ≡ suc (s.args.n - 1) = omega arith in
    let m : merge_rows s.args.held.now s.args.max (rows_from s.args.a.now 0 s.args.n)
    ≡ merge_rows_from s.args.held.now s.args.max c.load_row-p.result (rows_from s.args.a.now 1 (s.args.n - 1)) =
    ap (λ (k : ℕ). merge_rows s.args.held.now s.args.max (rows_from s.args.a.now 0 k)) e
    ∙ ap (λ (x : Row). merge_rows_from s.args.held.now s.args.max x (rows_from s.args.a.now 1 (s.args.n - 1))) (sym c.load_row-p.ensures) in
    (omega arith, refl, ap length m ∙ sym (zero-add _), ap (λ (x : List Row). overwrite s.args.a.now (place 0) (table_bytes x)) m)

pub loop-i-preserved : goal.loop-i-preserved
loop-i-preserved c =
    let p = c.loop-i in
    let h : p.i < c.args.n = omega arith in
    elim c.if-joins.branch [
      | then-joins w ↦
          let low : p.w < p.i + 1 = omega arith in
          let e = merge-join _ _ _ _ _ _ _ p.w h c.load_row-q.ensures (sym c.joins.ensures ∙ w.if-joins.true) in
          rw (w.a-is, w.p-is, w.w-is) (
            low,
            p.invariant.1,
            p.invariant.2 ∙ ap (λ (x : List Row). p.w + length x) e,
            p.invariant.3 ∙ ap (λ (x : List Row). overwrite p.a (place p.w) (table_bytes x)) e,
          )
      | else-joins w ↦
          let j = sym c.joins.ensures ∙ w.if-joins.false in
          rw (w.a-is, w.p-is, w.w-is, w.store_row.ensures) (
            omega arith,
            ap length (sym w.store_row.ensures) ∙ w.store_row.auto.a ∙ p.invariant.1,
            p.invariant.2 ∙ ap (λ (k : ℕ). p.w + k) (merge_less _ _ _ _ _ _ _ _ h c.load_row-q.ensures j p.invariant.0) ∙ sym (add_assoc p.w 1 _),
            p.invariant.3 ∙ merge-store _ _ _ _ _ _ _ _ h c.load_row-q.ensures j p.invariant.0,
          )
    ]

pub returns : goal.returns
unfolding merge_rows_from merge_table
returns c =
    let s = c.args in
    let z : s.n - c.loop-i.i ≡ 0 = omega arith in
    let e : merge_rows_from s.held.now s.max c.loop-i.p (rows_from c.loop-i.a c.loop-i.i (s.n - c.loop-i.i)) ≡ c.loop-i.p ∷ [] =
    ap (λ (k : ℕ). merge_rows_from s.held.now s.max c.loop-i.p (rows_from c.loop-i.a c.loop-i.i k)) z in
    ap₂ (λ (m : ℕ) (x : List ℕ). (m, x)) (sym (c.loop-i.invariant.2 ∙ ap (λ (x : List Row). c.loop-i.w + length x) e))
    (sym (c.loop-i.invariant.3 ∙ ap (λ (x : List Row). overwrite c.loop-i.a (place c.loop-i.w) (table_bytes x)) e ∙ sym c.store_row-2.ensures))
