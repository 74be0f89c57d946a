-- `area::lookup::piece` meets its contract: what is found lies in the area.
use Prim.Native.Nat.{ℕ, ◌+◌, ◌≤◌}
use mathlib.Core.Path.{◌≡◌, ap, ◌∙◌}
use mathlib.Core.List.{List}
use native.Mathlib.Nat.{add-sub_cancel_left}
use native.Mathlib.Omega.{arith}
use Rattle.laws.specs.Bytes.{part}
use Rattle.area.specs.Table.{rows_from, total}
use Rattle.area.specs.Find.{find_from}
use Rattle.area.specs.FindCode.{bytes_at}
use Rattle.area.specs.declared.lookup.Found.{Found}
use Rattle.area.proofs.lookup.Laws.{find-within}
use Rattle.area.proofs.lookup.piece.Goals as goal

ends : (a : List ℕ) (n off : ℕ) (f : Found) → f ≡ find_from off 0 (rows_from a 0 n) → f.start + f.len ≤ 0 + total (rows_from a 0 n)
ends a n off f e = rw e (find-within off 0 (rows_from a 0 n))

pub overflow_add-result : goal.overflow_add-result
overflow_add-result c = omega (arith, ends _ _ _ _ c.find-f.ensures)

pub slice_bounds-result-end : goal.slice_bounds-result-end
slice_bounds-result-end c = omega (arith, ends _ _ _ _ c.find-f.ensures)

pub returns : goal.returns
returns c =
    let a = c.args.a.now in
    ap (part a c.find-f.result.start) (add-sub_cancel_left c.find-f.result.start c.find-f.result.len) ∙ ap (bytes_at a) c.find-f.ensures
