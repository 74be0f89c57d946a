-- Where the bytes of the piece at an offset lie in the work area (`inflight.get` of sender.rs). Definitions only.
use Rattle.std.specs.Prelude.{List, [], ◌∷◌, true, false, cond, ℕ, ◌+◌, eqb}
use Rattle.area.specs.declared.table.Row.{Row}
use Rattle.area.specs.declared.lookup.Found.{Found}

-- the pieces' bytes lie one after the other: the first of these rows has its bytes at `start`
unfoldable pub find_from : ℕ → ℕ → List Row → Found
find_from off start [] = record { here = false; start = 0; len = 0 }
find_from off start (r ∷ rs) = cond (eqb off r.off) (record { here = true; start = start; len = r.len }) (find_from off (start + r.len) rs)
