-- `area::splitting::split_table` meets its contract.
use Rattle.laws.specs.Bytes.{overwrite}
use Rattle.laws.proofs.Bytes.{over-nil}
use Rattle.area.specs.Layout.{place}
use Rattle.area.specs.Table.{row_at, rows_from, table_bytes}
use Rattle.area.specs.declared.table.Row.{Row}
use Rattle.area.specs.Recut.{split_rows, split_table}
use Rattle.area.proofs.splitting.Laws.{back}
use Rattle.area.proofs.table.Laws.{row_before}
use Prim.Native.Nat.{ℕ, ◌-◌, ◌<◌}
use mathlib.Core.Path.{◌≡◌, sym, ap, ap₂, ◌∙◌}
use mathlib.Core.List.{List}
use native.Mathlib.Omega.{arith}
use lib.ListN.{length}
use Rattle.area.proofs.splitting.split_table.Goals as goal

pub overflow_sub-w : goal.overflow_sub-w
overflow_sub-w c = let h : 0 < c.loop-i.i = omega arith in (back _ _ _ _ _ _ c.requires.2 h c.loop-i.invariant.1 c.load_row-r.ensures c.cut_count-w.ensures.0).fits

pub store_cut-requires : goal.store_cut-requires
store_cut-requires c =
    let h : 0 < c.loop-i.i = omega arith in
    let d = c in
    let p = d in
    let s = p in
    let q : p.loop-i.i - 1 < p.loop-i.i = omega arith in
    let n : p.loop-i.i - 1 < s.args.n = omega arith in
    let e : d.load_row-r.result ≡ row_at s.args.a.now (p.loop-i.i - 1) = d.load_row-r.ensures ∙ p.loop-i.invariant.5 (p.loop-i.i - 1) q in
    (omega (arith, back _ _ _ _ _ _ c.requires.2 h c.loop-i.invariant.1 c.load_row-r.ensures c.cut_count-w.ensures.0), omega arith, s.requires.2, rw e (s.requires.4 (p.loop-i.i - 1) n))

pub loop-i-preserved : goal.loop-i-preserved
loop-i-preserved c =
    let h : 0 < c.loop-i.i = omega arith in
    let b = c in
    let d = b in
    let p = d in
    let v = b.store_cut.ensures in
    let t = back _ _ _ _ _ _ c.requires.2 h c.loop-i.invariant.1 c.load_row-r.ensures c.cut_count-w.ensures.0 in (
      omega arith,
      rw v (t.rest ∙ ap (λ (x : List Row). length (split_rows p.args.max x)) (sym t.kept)),
      omega (arith, t.fits),
      b.store_cut.auto.a ∙ p.loop-i.invariant.3,
      rw v (p.loop-i.invariant.4 ∙ t.turn),
      λ k h. rw v (row_before _ _ _ k (omega (arith, t.apart)) ∙ p.loop-i.invariant.5 k (omega arith)),
    )

pub returns : goal.returns
unfolding split_rows split_table
returns c =
    let p = c in
    let s = p in
    let z : p.loop-i.i ≡ 0 = omega arith in
    ap₂ (λ (m : ℕ) (b : List ℕ). (m, b)) p.split_count-m.ensures
    (sym (p.loop-i.invariant.4 ∙ ap (λ (k : ℕ). overwrite p.loop-i.a (place 0) (table_bytes (split_rows s.args.max (rows_from p.loop-i.a 0 k)))) z ∙ over-nil p.loop-i.a (place 0)))
