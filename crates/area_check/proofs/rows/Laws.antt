-- Turns of the tests' loops.
-- Assumes nothing.
use mathlib.Core.Path.{◌≡◌, ap}
use mathlib.Core.List.{List, [], ◌∷◌}
use mathlib.Core.Bool.{true, ◌&&◌}
use Prim.Native.Nat.{ℕ, zero, suc, ◌+◌, ◌-◌, ◌*◌, ◌/◌, ◌≤◌, ◌<◌}
use native.Mathlib.Nat.{not-suc-le-zero, lt-div-mul-add, div-lt_iff_lt-mul}
use native.Mathlib.Omega.{arith}
use lib.ListN.{length, get_or}
use lib.Dec.{leb, ltb}
use borrow.Author.Tests.{ltb-true}
use Rattle.area.specs.Table.{row_at, rows_from, total}
use Rattle.area.specs.declared.table.Row.{Row}
use Rattle.area.proofs.table.Laws.{rows-turn}
use Rattle.laws.proofs.Picks.{and_first, and_second}
use Rattle.ledger.specs.Cover.{ceil}
use Rattle.area_check.specs.Rows.{ascends, short_frames_of, held_bits_ok}

-- ---- a turn of the loop over the rows
module _ (a : List ℕ) (i n : ℕ) (r : Row) (h : i < n) (e : r ≡ row_at a i) where
  at_row : rows_from a i (n - i) ≡ r ∷ rows_from a (i + 1) (n - (i + 1))
  at_row = rows-turn a i n r h e

  pub ascends-turn : (max next from : ℕ)
      → ascends max next from (rows_from a i (n - i)) ≡ (leb from r.off && (ltb 0 r.len && (leb r.len max && ascends max next (r.off + r.len) (rows_from a (i + 1) (n - (i + 1))))))
  unfolding ascends
  ascends-turn max next from = ap (ascends max next from) at_row

  pub total-turn : total (rows_from a i (n - i)) ≡ r.len + total (rows_from a (i + 1) (n - (i + 1)))
  unfolding total
  total-turn = ap total at_row

  pub short-turn : (s : ℕ) → short_frames_of s (rows_from a i (n - i)) ≡ (r.len + (s - 1)) / s + short_frames_of s (rows_from a (i + 1) (n - (i + 1)))
  unfolding short_frames_of
  short-turn s = ap (short_frames_of s) at_row

-- a piece that one short frame carries
pub one-short : (l s : ℕ) → 1 ≤ l → l ≤ s → 1 ≡ ceil l s
one-short l s h k =
    let p : 1 ≤ s = omega arith in
    let m : (l + (s - 1)) / s < 2 = (div-lt_iff_lt-mul p).1 (omega arith) in
    go (ceil l s) m (lt-div-mul-add {a = l + (s - 1)} {b = s} p)
  where
    go : (c : ℕ) → c < 2 → l + (s - 1) < c * s + s → 1 ≡ c
    go zero m e = absurd (omega arith)
    go (suc c) m e = omega arith

-- ---- lists

-- each held piece has bits below `top`
pub held_below : (top : ℕ) (bs : List ℕ) → held_bits_ok top bs ≡ true → (j : ℕ) → j < length bs → get_or bs j 0 < top
unfolding held_bits_ok
held_below top [] t j h = absurd (not-suc-le-zero h)
held_below top (b ∷ bs) t zero h = ltb-true b top (and_first _ _ (and_second (ltb 0 b) (ltb b top && held_bits_ok top bs) t))
held_below top (b ∷ bs) t (suc j) h = held_below top bs (and_second (ltb b top) (held_bits_ok top bs) (and_second (ltb 0 b) (ltb b top && held_bits_ok top bs) t)) j (omega arith)
