-- Laws of the table: rows that are written and read back, rows apart from a run of stores, and a table's bytes as its rows.
-- Assumes nothing.
use mathlib.Core.Path.{◌≡◌, refl, sym, ap, ap₂, ◌∙◌}
use mathlib.Core.List.{List, [], ◌∷◌, ◌++◌}
use Prim.Native.Nat.{ℕ, zero, suc, ◌+◌, ◌-◌, ◌*◌, ◌≤◌, ◌<◌}
use native.Mathlib.Nat.{suc-add, zero-add, add-zero}
use native.Mathlib.Omega.{arith}
use lib.ListN.{length}
use Rattle.laws.specs.Bytes.{overwrite, part, Bytes}
use Rattle.laws.specs.Little.{num, le, load}
use Rattle.laws.proofs.Bytes.{length_over, over-cat, part-inside, part-add, over-part}
use Rattle.laws.proofs.Little.{num-le4, load-before, load_after, le-load, load-small}
use Rattle.area.specs.Layout.{place}
use Rattle.area.specs.Table.{row_at, rows_from, table_bytes}
use Rattle.area.specs.declared.table.Row.{Row}
use Rattle.area.specs.TableCode.{Small}

-- ---- rows apart from a run of stores

module _ (a : List ℕ) (at : ℕ) (bs : List ℕ) where
  pub row_before : (i : ℕ) → place (i + 1) ≤ at → row_at (overwrite a at bs) i ≡ row_at a i
  row_before i h = λ k. record { off = load-before a at bs (place i) (omega arith) k; len = load-before a at bs (place i + 4) (omega arith) k }

  pub row-after : (i : ℕ) → at + length bs ≤ place i → row_at (overwrite a at bs) i ≡ row_at a i
  row-after i h = λ k. record { off = load_after a at bs (place i) (omega arith) k; len = load_after a at bs (place i + 4) (omega arith) k }

  pub rows_before : (i n : ℕ) → place (i + n) ≤ at → rows_from (overwrite a at bs) i n ≡ rows_from a i n
  rows_before i zero h = refl
  rows_before i (suc n) h = ap₂ (λ (r : Row) (rs : List Row). r ∷ rs) (row_before i (omega arith)) (rows_before (i + 1) n (omega arith))

  pub rows-after : (i n : ℕ) → at + length bs ≤ place i → rows_from (overwrite a at bs) i n ≡ rows_from a i n
  rows-after i zero h = refl
  rows-after i (suc n) h = ap₂ (λ (r : Row) (rs : List Row). r ∷ rs) (row-after i h) (rows-after (i + 1) n (omega arith))

-- ---- the rows of a table

pub length-rows : (a : List ℕ) (i n : ℕ) → length (rows_from a i n) ≡ n
length-rows a i zero = refl
length-rows a i (suc n) = ap suc (length-rows a (i + 1) n)

pub length-table : (rs : List Row) → length (table_bytes rs) ≡ 8 * length rs
length-table [] = refl
length-table (r ∷ rs) = omega (arith, length-table rs)

pub table-cat : (rs ss : List Row) → table_bytes (rs ++ ss) ≡ table_bytes rs ++ table_bytes ss
table-cat [] ss = refl
table-cat (r ∷ rs) ss = ap (λ (t : List ℕ). le 4 r.off ++ (le 4 r.len ++ t)) (table-cat rs ss)

-- a turn of a loop over the rows
pub rows_step : (a : List ℕ) (i n : ℕ) → i < n → rows_from a i (n - i) ≡ row_at a i ∷ rows_from a (i + 1) (n - (i + 1))
rows_step a i n h = ap (rows_from a i) (let e : n - i ≡ suc (n - (i + 1)) = omega arith in e)

-- n rows and then m
pub rows-add : (a : List ℕ) (i n m : ℕ) → rows_from a i (n + m) ≡ rows_from a i n ++ rows_from a (i + n) m
rows-add a i zero m = ap₂ (rows_from a) (sym (add-zero i)) (zero-add m)
rows-add a i (suc n) m =
    ap (rows_from a i) (suc-add n m)
    ∙ ap (λ (rs : List Row). row_at a i ∷ rs) (rows-add a (i + 1) n m ∙ ap (λ (k : ℕ). rows_from a (i + 1) n ++ rows_from a k m) (let e : i + 1 + n ≡ i + suc n = omega arith in e))

-- rows written are read back
pub rows_written : (rs : List Row) (a : List ℕ) (i : ℕ) → Small rs → place (i + length rs) ≤ length a → rows_from (overwrite a (place i) (table_bytes rs)) i (length rs) ≡ rs
unfolding load
rows_written [] a i s h = refl
rows_written (r ∷ rs) a i s h =
    let o = overwrite a (place i) (table_bytes (r ∷ rs)) in
    let p : place i + 8 ≡ place (i + 1) = omega arith in
    let k : place i + length (table_bytes (r ∷ rs)) ≤ length a = omega (arith, length-table rs) in
    let q : 8 ≤ length (table_bytes (r ∷ rs)) = omega arith in
    let e : o ≡ overwrite (overwrite a (place i) (le 4 r.off ++ le 4 r.len)) (place (i + 1)) (table_bytes rs) =
    sym (over-cat a (place i) (le 4 r.off ++ le 4 r.len) (table_bytes rs)) ∙ ap (λ (m : ℕ). overwrite (overwrite a (place i) (le 4 r.off ++ le 4 r.len)) m (table_bytes rs)) p in
    let one : load o (place i) ≡ r.off = ap (λ (m : ℕ). load o m) (sym (add-zero (place i))) ∙ ap num (part-inside a (place i) (table_bytes (r ∷ rs)) 0 4 (omega arith) k) ∙ num-le4 r.off s.0 in
    let two : load o (place i + 4) ≡ r.len = ap num (part-inside a (place i) (table_bytes (r ∷ rs)) 4 4 q k) ∙ num-le4 r.len s.1 in
    ap₂ (λ (x : Row) (xs : List Row). x ∷ xs) (λ j. record { off = one j; len = two j })
    (ap (λ (x : List ℕ). rows_from x (i + 1) (length rs)) e ∙ rows_written rs (overwrite a (place i) (le 4 r.off ++ le 4 r.len)) (i + 1) s.2 (simp length_over (omega arith)))

-- ---- the table's bytes are its rows

pub table-rows : (a : List ℕ) → Bytes a → (i n : ℕ) → place (i + n) ≤ length a → table_bytes (rows_from a i n) ≡ part a (place i) (8 * n)
table-rows a b i zero h = refl
table-rows a b i (suc n) h =
    (λ j. le-load a b (place i) (omega arith) j ++ (le-load a b (place i + 4) (omega arith) j ++ table-rows a b (i + 1) n (omega arith) j))
    ∙ ap (λ (t : List ℕ). part a (place i) 4 ++ t)
    (ap (λ (m : ℕ). part a (place i + 4) 4 ++ part a m (8 * n)) (let e : place (i + 1) ≡ place i + 4 + 4 = omega arith in e) ∙ sym (part-add a (place i + 4) 4 (8 * n)))
    ∙ sym (part-add a (place i) 4 (4 + 8 * n)) ∙ ap (part a (place i)) (let e : 4 + (4 + 8 * n) ≡ 8 * suc n = omega arith in e)

-- writing the rows that are there changes nothing
pub table_kept : (a : List ℕ) → Bytes a → (i n : ℕ) → place (i + n) ≤ length a → overwrite a (place i) (table_bytes (rows_from a i n)) ≡ a
table_kept a b i n h = ap (overwrite a (place i)) (table-rows a b i n h) ∙ over-part a (place i) (8 * n)

-- ---- rows read from bytes are u32

pub small-rows : (a : List ℕ) → Bytes a → (i n : ℕ) → Small (rows_from a i n)
small-rows a b i zero = tt
small-rows a b i (suc n) = (load-small a b (place i), load-small a b (place i + 4), small-rows a b (i + 1) n)

-- ---- a turn of a loop over the rows

pub rows-turn : (a : List ℕ) (i n : ℕ) (r : Row) → i < n → r ≡ row_at a i → rows_from a i (n - i) ≡ r ∷ rows_from a (i + 1) (n - (i + 1))
rows-turn a i n r h e = rows_step a i n h ∙ ap (λ (x : Row). x ∷ rows_from a (i + 1) (n - (i + 1))) (sym e)

pub rows_none : (a : List ℕ) (i n : ℕ) → n ≤ i → rows_from a i (n - i) ≡ []
rows_none a i n h = ap (rows_from a i) (let e : n - i ≡ 0 = omega arith in e)
