-- The search by halves, and a turn of the loop from the end.
-- Assumes nothing.
use mathlib.Core.Path.{◌≡◌, refl, sym, ap, ap₂, ◌∙◌, subst}
use mathlib.Core.List.{List, [], ◌∷◌, ◌++◌}
use mathlib.Core.Bool.{Bool, true, false, not, ◌&&◌, and-false}
use Prim.Native.Nat.{ℕ, zero, suc, ◌+◌, ◌-◌, ◌≤◌, ◌<◌}
use native.Mathlib.Nat.{zero-add, add-zero, add_assoc}
use native.Mathlib.Omega.{arith}
use native.Mathlib.Numerals.{add-one}
use lib.ListN.{length, take, drop, get_or, drop_of_length-le}
use lib.Seq.{drop-cons}
use lib.Dec.{leb, ltb, eqb}
use borrow.Author.Tests.{leb-true, ltb-true, eq-eqb, ne_eqb}
use Rattle.area.specs.Table.{row_at, rows_from}
use Rattle.area.specs.declared.table.Row.{Row}
use Rattle.area.proofs.table.Laws.{rows-turn, rows-add}
use Rattle.laws.specs.Lists.{one, occurs, listed}
use Rattle.laws.proofs.Picks.{and_first, and_second}
use Rattle.laws.proofs.Lists.{occurs-listed, occurs-unlisted}
use Rattle.area_check.specs.Rows.{ascends, row_offs, all_flying}

-- ---- the search by halves

ascends-head : (m n k : ℕ) (r : Row) (rs : List Row) → ascends m n k (r ∷ rs) ≡ true → (k ≤ r.off) × (1 ≤ r.len) × (ascends m n (r.off + r.len) rs ≡ true)
unfolding ascends
ascends-head m n k r rs h =
    let p = and_second (leb k r.off) (ltb 0 r.len && (leb r.len m && ascends m n (r.off + r.len) rs)) h in
    let q = and_second (ltb 0 r.len) (leb r.len m && ascends m n (r.off + r.len) rs) p in
    (leb-true k r.off (and_first _ _ h), ltb-true 0 r.len (and_first _ _ p), and_second (leb r.len m) (ascends m n (r.off + r.len) rs) q)

-- offsets below the first are not there
ascends-low : (m n k o : ℕ) (rs : List Row) → ascends m n k rs ≡ true → o < k → occurs o (row_offs rs) ≡ 0
ascends-low m n k o [] h l = refl
ascends-low m n k o (r ∷ rs) h l =
    let f = ascends-head m n k r rs h in
    let q : o ≡ r.off → ⊥ = λ (e : o ≡ r.off). omega arith in
    rw (ne_eqb o r.off q, ascends-low m n (r.off + r.len) o rs f.2 (omega arith)) refl

-- rows, a row, rows: the first lie below it, the last above
ascends-split : (m n k o : ℕ) (rs : List Row) (r : Row) (ss : List Row) → ascends m n k (rs ++ (r ∷ ss)) ≡ true
    → (r.off < o → occurs o (row_offs rs) ≡ 0) × (o < r.off → occurs o (row_offs ss) ≡ 0) × (k ≤ r.off)
ascends-split m n k o [] r ss h =
    let f = ascends-head m n k r ss h in
    ((λ (l : r.off < o). refl), (λ (l : o < r.off). ascends-low m n (r.off + r.len) o ss f.2 (omega arith)), f.0)
ascends-split m n k o (x ∷ rs) r ss h =
    let f = ascends-head m n k x (rs ++ (r ∷ ss)) h in
    let i = ascends-split m n (x.off + x.len) o rs r ss f.2 in
    ((λ (l : r.off < o). let q : o ≡ x.off → ⊥ = λ (e : o ≡ x.off). omega (arith, i.2) in rw (ne_eqb o x.off q) (zero-add _ ∙ i.0 l)), i.1, omega (arith, i.2, f.0))

offs-cat : (o : ℕ) (rs ss : List Row) → occurs o (row_offs (rs ++ ss)) ≡ occurs o (row_offs rs) + occurs o (row_offs ss)
offs-cat o [] ss = sym (zero-add _)
offs-cat o (r ∷ rs) ss = ap (λ (c : ℕ). one (eqb o r.off) + c) (offs-cat o rs ss) ∙ sym (add_assoc _ _ _)

module _ (a : List ℕ) (n o : ℕ) where
  abbrev pub many : ℕ → ℕ → ℕ
  many i k = occurs o (row_offs (rows_from a i k))

  pub many-cut : (k : ℕ) → k ≤ n → many 0 n ≡ many 0 k + many k (n - k)
  many-cut k h =
      ap (many 0) (let e : n ≡ k + (n - k) = omega arith in e) ∙ ap (λ (x : List Row). occurs o (row_offs x)) (rows-add a 0 k (n - k)) ∙ offs-cat o (rows_from a 0 k) (rows_from (a) (0 + k) (n - k))
      ∙ ap (λ (j : ℕ). many 0 k + many j (n - k)) (zero-add k)

  module _ (i : ℕ) (r : Row) (h : i < n) (e : r ≡ row_at a i) where
    rows_cut : rows_from a 0 n ≡ rows_from a 0 i ++ (r ∷ rows_from a (i + 1) (n - (i + 1)))
    rows_cut =
        ap (rows_from a 0) (let q : n ≡ i + (n - i) = omega arith in q) ∙ rows-add a 0 i (n - i) ∙ ap (λ (j : ℕ). rows_from a 0 i ++ rows_from a j (n - i)) (zero-add i)
        ∙ ap (λ (x : List Row). rows_from a 0 i ++ x) (rows-turn a i n r h e)

    many-row : many 0 n ≡ many 0 i + (one (eqb o r.off) + many (i + 1) (n - (i + 1)))
    many-row = ap (λ (x : List Row). occurs o (row_offs x)) rows_cut ∙ offs-cat o (rows_from a 0 i) (r ∷ rows_from a (i + 1) (n - (i + 1)))

    many-next : many 0 (i + 1) ≡ many 0 i + one (eqb o r.off)
    many-next =
        ap (λ (x : List Row). occurs o (row_offs x)) (rows-add a 0 i 1) ∙ offs-cat o (rows_from a 0 i) (rows_from a (0 + i) 1)
        ∙ ap (λ (c : ℕ). many 0 i + c) (add-zero _ ∙ ap (λ (x : Row). one (eqb o x.off)) (ap (row_at a) (zero-add i) ∙ sym e))

    many-last : many i (n - i) ≡ one (eqb o r.off) + many (i + 1) (n - (i + 1))
    many-last = ap (λ (x : List Row). occurs o (row_offs x)) (rows-turn a i n r h e)

    pub found_here : r.off ≡ o → true ≡ listed o (row_offs (rows_from a 0 n))
    found_here q = sym (occurs-listed o (row_offs (rows_from a 0 n)) (omega (arith, many-row, ap one (eq-eqb o r.off (sym q)))))

    module _ (m x : ℕ) (f : ascends m x 0 (rows_from a 0 n) ≡ true) where
      parts : (r.off < o → many 0 i ≡ 0) × (o < r.off → many (i + 1) (n - (i + 1)) ≡ 0) × (0 ≤ r.off)
      parts = ascends-split m x 0 o (rows_from a 0 i) r (rows_from a (i + 1) (n - (i + 1))) (subst (λ (l : List Row). ascends m x 0 l ≡ true) rows_cut f)

      pub none_below : r.off < o → many 0 (i + 1) ≡ 0
      none_below l = many-next ∙ omega (arith, parts.0 l, ap one (ne_eqb o r.off (λ (q : o ≡ r.off). omega arith)))

      pub none_above : o ≤ r.off → (r.off ≡ o → ⊥) → many i (n - i) ≡ 0
      none_above l d = let s : o < r.off = below o r.off l d in many-last ∙ omega (arith, parts.1 s, ap one (ne_eqb o r.off (λ (q : o ≡ r.off). d (sym q))))
        where
          below : (o b : ℕ) → o ≤ b → (b ≡ o → ⊥) → o < b
          below o b l d = omega (arith, d)

  pub not_there : (k : ℕ) → k ≤ n → many 0 k ≡ 0 → many k (n - k) ≡ 0 → false ≡ listed o (row_offs (rows_from a 0 n))
  not_there k h p q = sym (occurs-unlisted o (row_offs (rows_from a 0 n)) (omega (arith, many-cut k h)))

-- ---- lists

-- a turn from the end: one offset more in front
module _ (xs : List ℕ) (i : ℕ) (p : 0 < i) (h : i ≤ length xs) where
  pub drop-back : drop (i - 1) xs ≡ get_or xs (i - 1) 0 ∷ drop i xs
  drop-back = drop-cons xs (i - 1) 0 (omega arith) ∙ ap (λ (k : ℕ). get_or xs (i - 1) 0 ∷ drop k xs) (sym (add-one (i - 1)) ∙ back)
    where
      back : i - 1 + 1 ≡ i
      back = omega arith

  pub take_back : take (i - (i - 1)) (drop (i - 1) xs) ≡ get_or xs (i - 1) 0 ∷ []
  take_back = ap₂ take one_left drop-back
    where
      one_left : i - (i - 1) ≡ 1
      one_left = omega arith

  pub flying-back : (os : List ℕ) → all_flying (drop (i - 1) xs) os ≡ ((listed (get_or xs (i - 1) 0) os && not (listed (get_or xs (i - 1) 0) (drop i xs))) && all_flying (drop i xs) os)
  unfolding all_flying
  flying-back os = ap (λ (l : List ℕ). all_flying l os) drop-back

-- where the last ones fail, all do
pub flying-part : (xs os : List ℕ) (i : ℕ) → all_flying (drop i xs) os ≡ false → all_flying xs os ≡ false
unfolding all_flying
flying-part xs os zero e = e
flying-part [] os (suc i) e = e
flying-part (x ∷ xs) os (suc i) e = ap (λ (b : Bool). (listed x os && not (listed x xs)) && b) (flying-part xs os i e) ∙ and-false (listed x os && not (listed x xs))

pub flying-end : (xs os : List ℕ) (i : ℕ) → length xs ≤ i → all_flying (drop i xs) os ≡ true
unfolding all_flying
flying-end xs os i h = ap (λ (l : List ℕ). all_flying l os) (drop_of_length-le xs h)
