-- Laws of the lookup: a turn of its loop, and that what is found lies in the stream.
-- Assumes nothing.
use mathlib.Core.Path.{◌≡◌, ap}
use mathlib.Core.List.{List, [], ◌∷◌}
use mathlib.Core.Bool.{true, false, cond}
use Prim.Native.Nat.{ℕ, ◌+◌, ◌-◌, ◌≤◌, ◌<◌}
use native.Mathlib.Omega.{arith}
use lib.Dec.{eqb}
use Rattle.laws.proofs.Picks.{by}
use Rattle.area.specs.Table.{row_at, rows_from, total}
use Rattle.area.specs.declared.table.Row.{Row}
use Rattle.area.proofs.table.Laws.{rows-turn, rows_none}
use Rattle.area.specs.Find.{find_from}
use Rattle.area.specs.declared.lookup.Found.{Found}

pub find-turn : (a : List ℕ) (i n : ℕ) (r : Row) → i < n → r ≡ row_at a i → (off start : ℕ)
    → find_from off start (rows_from a i (n - i)) ≡ cond (eqb off r.off) (record { here = true; start = start; len = r.len }) (find_from off (start + r.len) (rows_from a (i + 1) (n - (i + 1))))
unfolding find_from
find-turn a i n r h e off start = ap (find_from off start) (rows-turn a i n r h e)

pub find_none : (a : List ℕ) (i n off start : ℕ) → n ≤ i → find_from off start (rows_from a i (n - i)) ≡ record { here = false; start = 0; len = 0 }
unfolding find_from
find_none a i n off start h = ap (find_from off start) (rows_none a i n h)

-- what is found ends by the end of the pieces' bytes
pub find-within : (off start : ℕ) (rs : List Row) → let f = find_from off start rs in f.start + f.len ≤ start + total rs
unfolding find_from total
find-within off start [] = omega arith
find-within off start (r ∷ rs) =
    let i = find-within off (start + r.len) rs in
    by (λ (f : Found). f.start + f.len ≤ start + (r.len + total rs)) (eqb off r.off) (λ e. omega arith) (λ e. omega arith)
