-- Laws of cutting: turns of the loops, and how many rows there are.
-- Assumes nothing.
use mathlib.Core.Path.{◌≡◌, refl, sym, ap, ◌∙◌}
use mathlib.Core.List.{List, [], ◌∷◌, ◌++◌, append_assoc, append-nil}
use mathlib.Core.Bool.{Bool, true, false, cond}
use Prim.Native.Nat.{ℕ, zero, suc, ◌+◌, ◌-◌, ◌/◌, ◌≤◌, ◌<◌}
use native.Mathlib.Nat.{div-eq_of_lt, div-eq-sub-div, zero-add, le_refl}
use native.Mathlib.Omega.{arith}
use lib.ListN.{length, length-append}
use lib.Dec.{leb}
use borrow.Author.Tests.{le-leb, lt-leb, leb-true, leb-false}
use Rattle.laws.specs.Bytes.{overwrite}
use Rattle.laws.proofs.Bytes.{over-cat, over-front}
use Rattle.area.specs.Layout.{place}
use Rattle.area.specs.Table.{row_at, rows_from, table_bytes}
use Rattle.area.specs.declared.table.Row.{Row}
use Rattle.area.proofs.table.Laws.{rows-turn, rows-add, length-rows, length-table, table-cat, rows_before}
use Rattle.area.specs.Recut.{row, cut_rows, cut_row, split_rows}

-- ---- one piece

-- more rounds than bytes change nothing
cut-same : (k j max o n : ℕ) → 0 < max → n ≤ k → n ≤ j → cut_rows k max o n ≡ cut_rows j max o n
unfolding cut_rows
cut-same zero zero max o n m h i = refl
cut-same zero (suc j) max o n m h i =
    let e : n ≤ max = omega arith in
    simp (le-leb _ _ e)
cut-same (suc k) zero max o n m h i =
    let e : n ≤ max = omega arith in
    simp (le-leb _ _ e)
cut-same (suc k) (suc j) max o n m h i = go (leb n max) refl (λ p. cut-same k j max (o + max) (n - max) m (omega arith) (omega arith))
  where
    go : (b : Bool) → leb n max ≡ b → (max < n → cut_rows k max (o + max) (n - max) ≡ cut_rows j max (o + max) (n - max))
        → cond b (row o n ∷ []) (row o max ∷ cut_rows k max (o + max) (n - max)) ≡ cond b (row o n ∷ []) (row o max ∷ cut_rows j max (o + max) (n - max))
    go true e f = refl
    go false e f = ap (λ (rs : List Row). row o max ∷ rs) (f (leb-false _ _ e))

module _ (max o n : ℕ) where
  pub cut-end : n ≤ max → cut_rows n max o n ≡ row o n ∷ []
  unfolding cut_rows
  cut-end h = go n refl
    where
      go : (k : ℕ) → n ≡ k → cut_rows k max o n ≡ row o n ∷ []
      go zero e = refl
      go (suc k) e = simp (le-leb _ _ h)

  pub cut-turn : 0 < max → max < n → cut_rows n max o n ≡ row o max ∷ cut_rows (n - max) max (o + max) (n - max)
  unfolding cut_rows
  cut-turn m h = go n refl
    where
      go : (k : ℕ) → n ≡ k → cut_rows k max o n ≡ row o max ∷ cut_rows (n - max) max (o + max) (n - max)
      go zero e = absurd (omega arith)
      go (suc k) e = simp (lt-leb _ _ h) (ap (λ (rs : List Row). row o max ∷ rs) (cut-same k (n - max) max (o + max) (n - max) m (omega arith) (omega arith)))

pub length_cut : (k max o n : ℕ) → 0 < max → n ≤ k → length (cut_rows k max o n) ≡ (n - 1) / max + 1
unfolding cut_rows
length_cut zero max o n m h =
    let e : n - 1 < max = omega arith in
    simp (div-eq_of_lt e)
length_cut (suc k) max o n m h = go (leb n max) refl (λ p. length_cut k max (o + max) (n - max) m (omega arith))
  where
    go : (b : Bool) → leb n max ≡ b → (max < n → length (cut_rows k max (o + max) (n - max)) ≡ (n - max - 1) / max + 1)
        → length (cond b (row o n ∷ []) (row o max ∷ cut_rows k max (o + max) (n - max))) ≡ (n - 1) / max + 1
    go true e f =
        let l : n ≤ max = leb-true _ _ e in
        let i : n - 1 < max = omega arith in
        simp (div-eq_of_lt i)
    go false e f =
        let l : max < n = leb-false _ _ e in
        let g : max ≤ n - 1 = omega arith in
        let s : n - max - 1 ≡ n - 1 - max = omega arith in
        omega (arith, f l, div-eq-sub-div m g, ap (λ (x : ℕ). x / max) s)

-- ---- all pieces

pub split-cat : (max : ℕ) (rs ss : List Row) → split_rows max (rs ++ ss) ≡ split_rows max rs ++ split_rows max ss
unfolding split_rows
split-cat max [] ss = refl
split-cat max (r ∷ rs) ss = ap (λ (x : List Row). cut_row max r ++ x) (split-cat max rs ss) ∙ sym (append_assoc (cut_row max r) (split_rows max rs) (split_rows max ss))

-- no row is lost
pub split-long : (max : ℕ) (rs : List Row) → 0 < max → length rs ≤ length (split_rows max rs)
unfolding split_rows
split-long max [] m = omega arith
split-long max (r ∷ rs) m =
    omega (arith, split-long max rs m, length-append (cut_row max r) (split_rows max rs), length_cut r.len max r.off r.len m (le_refl _))

-- the rows up to j and row j
pub split-last : (max : ℕ) (a : List ℕ) (j : ℕ) → split_rows max (rows_from a 0 (j + 1)) ≡ split_rows max (rows_from a 0 j) ++ cut_row max (row_at a j)
unfolding split_rows
split-last max a j =
    ap (split_rows max) (rows-add a 0 j 1 ∙ ap (λ (k : ℕ). rows_from a 0 j ++ (row_at a k ∷ [])) (zero-add j))
    ∙ split-cat max (rows_from a 0 j) (row_at a j ∷ []) ∙ ap (λ (x : List Row). split_rows max (rows_from a 0 j) ++ x) (append-nil (cut_row max (row_at a j)))

-- a turn of the loop that cuts the table from the back: row j's pieces are written, and what is left to do gives the same
pub split-turn : (max : ℕ) (a : List ℕ) (j w : ℕ) → 0 < max → w ≡ length (split_rows max (rows_from a 0 j))
    → let b = overwrite a (place w) (table_bytes (cut_row max (row_at a j))) in
    (overwrite a (place 0) (table_bytes (split_rows max (rows_from a 0 (j + 1)))) ≡ overwrite b (place 0) (table_bytes (split_rows max (rows_from b 0 j)))) × (rows_from b 0 j ≡ rows_from a 0 j)
split-turn max a j w m e =
    let x = split_rows max (rows_from a 0 j) in
    let c = table_bytes (cut_row max (row_at a j)) in
    let b = overwrite a (place w) c in
    let l : j ≤ w = omega (arith, split-long max (rows_from a 0 j) m, length-rows a 0 j, e) in
    let r : rows_from b 0 j ≡ rows_from a 0 j = rows_before a (place w) c 0 j (omega arith) in
    let p : place 0 + length (table_bytes x) ≡ place w = omega (arith, length-table x) in (
      ap (λ (y : List Row). overwrite a (place 0) (table_bytes y)) (split-last max a j) ∙ ap (overwrite a (place 0)) (table-cat x (cut_row max (row_at a j)))
          ∙ sym (over-front a (place 0) (table_bytes x) c) ∙ ap (λ (k : ℕ). overwrite (overwrite a k c) (place 0) (table_bytes x)) p
          ∙ ap (λ (y : List Row). overwrite b (place 0) (table_bytes (split_rows max y))) (sym r),
      r,
    )

-- a turn of the loop that counts
pub split-count-turn : (max : ℕ) (a : List ℕ) (i n : ℕ) (r : Row) → 0 < max → i < n → r ≡ row_at a i
    → length (split_rows max (rows_from a i (n - i))) ≡ (r.len - 1) / max + 1 + length (split_rows max (rows_from a (i + 1) (n - (i + 1))))
unfolding split_rows
split-count-turn max a i n r m h e =
    ap (λ (x : List Row). length (split_rows max x)) (rows-turn a i n r h e)
    ∙ length-append (cut_row max r) (split_rows max (rows_from a (i + 1) (n - (i + 1))))
    ∙ ap (λ (k : ℕ). k + length (split_rows max (rows_from a (i + 1) (n - (i + 1))))) (length_cut r.len max r.off r.len m (le_refl _))

-- a turn of the loop that writes one piece's rows
pub store-turn : (a : List ℕ) (i max o n : ℕ) → 0 < max → max < n
    → overwrite a (place i) (table_bytes (cut_rows n max o n))
    ≡ overwrite (overwrite a (place i) (table_bytes (row o max ∷ []))) (place (i + 1)) (table_bytes (cut_rows (n - max) max (o + max) (n - max)))
store-turn a i max o n m h =
    let p : place i + 8 ≡ place (i + 1) = omega arith in
    ap (λ (x : List Row). overwrite a (place i) (table_bytes x)) (cut-turn max o n m h)
    ∙ sym (over-cat a (place i) (table_bytes (row o max ∷ [])) (table_bytes (cut_rows (n - max) max (o + max) (n - max))))
    ∙ ap (λ (k : ℕ). overwrite (overwrite a (place i) (table_bytes (row o max ∷ []))) k (table_bytes (cut_rows (n - max) max (o + max) (n - max)))) p

pub cut-some : (max o n : ℕ) → 0 < max → 1 ≤ length (cut_rows n max o n)
cut-some max o n m = omega (arith, length_cut n max o n m (le_refl _))

-- a turn of the loop that cuts the table, from the back: r is the last row left, and becomes k rows
module _ (max : ℕ) (a : List ℕ) (i w : ℕ) (r : Row) (k : ℕ) (m : 0 < max) (h : 0 < i) (e : w ≡ length (split_rows max (rows_from a 0 i))) (s : r ≡ row_at a (i - 1)) (p : k ≡ (r.len - 1) / max + 1) where
  pub back-size : length (cut_row max r) ≡ k
  back-size = omega (arith, length_cut r.len max r.off r.len m (le_refl _))

  back_whole : w ≡ length (split_rows max (rows_from a 0 (i - 1))) + k
  back_whole =
      let t : i - 1 + 1 ≡ i = omega arith in
      e ∙ ap (λ (n : ℕ). length (split_rows max (rows_from a 0 n))) (sym t) ∙ ap length (split-last max a (i - 1))
      ∙ length-append (split_rows max (rows_from a 0 (i - 1))) (cut_row max (row_at a (i - 1)))
      ∙ ap (λ (n : ℕ). length (split_rows max (rows_from a 0 (i - 1))) + n) (ap (λ (x : Row). length (cut_row max x)) (sym s) ∙ back-size)

  pub back_fits : k ≤ w
  back_fits = omega (arith, back_whole)

  pub back-rest : w - k ≡ length (split_rows max (rows_from a 0 (i - 1)))
  back-rest = omega (arith, back_whole)

  pub back-apart : i - 1 ≤ w - k
  back-apart = omega (arith, back-rest, split-long max (rows_from a 0 (i - 1)) m, length-rows a 0 (i - 1))

  pub back-turn : let b = overwrite a (place (w - k)) (table_bytes (cut_row max r)) in
      (overwrite a (place 0) (table_bytes (split_rows max (rows_from a 0 i))) ≡ overwrite b (place 0) (table_bytes (split_rows max (rows_from b 0 (i - 1))))) × (rows_from b 0 (i - 1) ≡ rows_from a 0 (i - 1))
  back-turn =
      let t : i - 1 + 1 ≡ i = omega arith in
      rw s (rw t at (split-turn max a (i - 1) (w - k) m back-rest))

-- all of it
pub record Back (max : ℕ) (a : List ℕ) (i w : ℕ) (r : Row) (k : ℕ) : Type 0 where
  pub size : length (cut_row max r) ≡ k
  pub fits : k ≤ w
  pub rest : w - k ≡ length (split_rows max (rows_from a 0 (i - 1)))
  pub apart : i - 1 ≤ w - k
  pub turn : overwrite a (place 0) (table_bytes (split_rows max (rows_from a 0 i)))
      ≡ overwrite (overwrite a (place (w - k)) (table_bytes (cut_row max r))) (place 0) (table_bytes (split_rows max (rows_from (overwrite a (place (w - k)) (table_bytes (cut_row max r))) 0 (i - 1))))
  pub kept : rows_from (overwrite a (place (w - k)) (table_bytes (cut_row max r))) 0 (i - 1) ≡ rows_from a 0 (i - 1)

pub back : (max : ℕ) (a : List ℕ) (i w : ℕ) (r : Row) (k : ℕ) → 0 < max → 0 < i → w ≡ length (split_rows max (rows_from a 0 i)) → r ≡ row_at a (i - 1) → k ≡ (r.len - 1) / max + 1 → Back max a i w r k
back max a i w r k m h e s p = record {
  size = back-size max a i w r k m h e s p;
  fits = back_fits max a i w r k m h e s p;
  rest = back-rest max a i w r k m h e s p;
  apart = back-apart max a i w r k m h e s p;
  turn = (back-turn max a i w r k m h e s p).0;
  kept = (back-turn max a i w r k m h e s p).1;
}

-- ---- what `split_table` leaves, fact by fact
