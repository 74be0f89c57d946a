-- `area::removal::move_piece` meets its contract.
use Rattle.laws.specs.Bytes.{overwrite}
use Rattle.area.specs.Layout.{place}
use Rattle.area.specs.Table.{table_bytes}
use Rattle.area.proofs.removal.Laws.{move-none}
use Prim.Native.Nat.{ℕ}
use mathlib.Core.Path.{ap, ◌∙◌}
use mathlib.Core.List.{List, [], ◌∷◌}
use native.Mathlib.Omega.{arith}
use Rattle.area.proofs.removal.move_piece.Goals as goal

pub returns-then-w-i : goal.returns-then-w-i
returns-then-w-i c = let s = c in move-none _ (λ k. (c.type_inv.a k).fits) _ _ _ _ _ s.requires.0 s.requires.1 s.requires.5 (s.requires.6 c.if-w-i.true) c.if-w-i.true

pub store_row-requires : goal.store_row-requires
store_row-requires c = omega (arith, c.shift_left.auto.s)

pub shape_of-a : goal.shape_of-a
shape_of-a c = let st = c in st.store_row.auto.a ∙ st.shift_left.auto.s

pub returns : goal.returns
returns c =
    let st = c in
    let sh = st in
    let s = sh in
    st.store_row.ensures ∙ ap (λ (x : List ℕ). overwrite x (place s.args.w) (table_bytes (s.args.r ∷ []))) sh.shift_left.ensures
