-- What a walk of a loop names.
--     ty_at     the type of local i.        after   what follows the first part of a sequence
--     fallen   an order by a measure, which is well founded
use Prim.Native.Nat.{ℕ, zero, suc}
use mathlib.Core.List.{List, [], ◌∷◌}
use mir.Syntax.{Ty, ty_unit, Local, local, Body, skip, seq, assign, block, loop, cond, switch, exit, return, call, unreachable, call_v, lend_static}

abbrev ty_of : Local → Ty
ty_of (local τ h) = τ

abbrev pub ty_at : List Local → ℕ → Ty
ty_at [] n = ty_unit
ty_at (l ∷ ls) zero = ty_of l
ty_at (l ∷ ls) (suc n) = ty_at ls n

abbrev pub after : Body → Body
after skip = skip
after (seq a b) = b
after (assign p v) = skip
after (block b) = skip
after (loop b) = skip
after (cond c a b) = skip
after (switch c arms) = skip
after (exit n) = skip
after return = skip
after (call f xs d) = skip
after unreachable = skip
after (call_v f s xs d) = skip
after (lend_static p τ c) = skip
