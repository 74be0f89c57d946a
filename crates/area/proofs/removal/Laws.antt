-- Laws of hashes, and of pieces that leave in one pass.
-- Assumes nothing.
use mathlib.Core.Path.{◌≡◌, refl, sym, ap, ap₂, ◌∙◌}
use mathlib.Core.List.{List, [], ◌∷◌, ◌++◌}
use mathlib.Core.Bool.{Bool, true, false, cond, ◌||◌}
use Prim.Native.Nat.{ℕ, zero, suc, ◌+◌, ◌-◌, ◌≤◌, ◌<◌, suc-le-suc}
use native.Mathlib.Nat.{sub-zero, le_refl, not-suc-le-zero}
use native.Mathlib.Omega.{arith}
use native.Mathlib.Numerals.{add-one}
use lib.ListN.{length, take, drop, get_or, set, length-append, length-take, length-drop, length-set, drop_of_length-le}
use lib.Seq.{drop-cons, get_or-set_same, get_or-set_other, take-take, drop_at}
use lib.Dec.{eqb}
use borrow.Author.Tests.{eq-eqb, ne_eqb, eqb-true, eqb-false}
use Rattle.laws.specs.Bytes.{overwrite, part, Bytes}
use Rattle.laws.proofs.Bytes.{length_over, over-nil, over-cat, over-comm, part-before, part-after, part-add, over-part, length_part}
use Rattle.area.specs.Layout.{place, stream_bytes, area_bytes}
use Rattle.area.specs.Table.{row_at, rows_from, table_bytes, total}
use Rattle.area.specs.declared.table.Row.{Row}
use Rattle.area.proofs.table.Laws.{rows-turn, rows_none, rows-after, table_kept}
use Rattle.laws.specs.Lists.{listed}
use Rattle.laws.proofs.Picks.{test, or_left, or_right}
use Rattle.area.specs.Removal.{hash_count, hash_place, hash_all, Hashed, kept_rows, kept_bytes, removed_pieces}
use Rattle.area.specs.declared.removal.Kept.{Kept}
use Rattle.limits.specs.Limits.{max_pieces}
use Rattle.area.specs.TableCode.{with_rows}

-- ---- hashes

pub listed-turn : (o : ℕ) (xs : List ℕ) (i : ℕ) → i < length xs → listed o (drop i xs) ≡ (eqb o (get_or xs i 0) || listed o (drop (i + 1) xs))
listed-turn o xs i h = ap (listed o) (drop-cons xs i 0 h ∙ ap (λ (k : ℕ). get_or xs i 0 ∷ drop k xs) (sym (add-one i)))

pub listed-none : (o : ℕ) (xs : List ℕ) → ((j : ℕ) → j < length xs → get_or xs j 0 ≡ o → ⊥) → listed o xs ≡ false
listed-none o [] f = refl
listed-none o (x ∷ xs) f =
    rw (ne_eqb o x (λ e. f 0 (omega arith) (sym e)), listed-none o xs (λ j h e. f (suc j) (suc-le-suc h) e))

pub listed_at : (o : ℕ) (xs : List ℕ) (g : ℕ) → g < length xs → get_or xs g 0 ≡ o → listed o xs ≡ true
listed_at o [] g h e = absurd (not-suc-le-zero h)
listed_at o (x ∷ xs) zero h e = or_left (eqb o x) (listed o xs) (eq-eqb o x (sym e))
listed_at o (x ∷ xs) (suc g) h e = or_right (eqb o x) (listed o xs) (listed_at o xs g (omega (arith, h)) e)

pub unhashed : (hashes xs : List ℕ) (o k : ℕ) → k ≡ hash_place o → Hashed hashes xs → get_or hashes k 0 ≡ 0 → listed o xs ≡ false
unhashed hashes xs o k p m z = listed-none o xs (λ j h e. let q : ◌≡◌ {A = ℕ} 0 1 = sym z ∙ ap (λ (i : ℕ). get_or hashes i 0) (p ∙ ap hash_place (sym e)) ∙ m.set j h in omega arith)

-- one hash more
pub hash-turn : (hashes xs : List ℕ) (i k : ℕ) → i < length xs → k ≡ hash_place (get_or xs i 0) → hash_all hashes (drop i xs) ≡ hash_all (set hashes k 1) (drop (i + 1) xs)
unfolding hash_all
hash-turn hashes xs i k h e =
    ap (hash_all hashes) (drop-cons xs i 0 h ∙ ap (λ (k : ℕ). get_or xs i 0 ∷ drop k xs) (sym (add-one i))) ∙ ap (λ (m : ℕ). hash_all (set hashes m 1) (drop (i + 1) xs)) (sym e)

pub hash-end : (hashes xs : List ℕ) (i : ℕ) → length xs ≤ i → hash_all hashes (drop i xs) ≡ hashes
unfolding hash_all
hash-end hashes xs i h = ap (hash_all hashes) (drop_of_length-le xs h)

-- a hash that is set stays
set-stays : (hashes : List ℕ) (j k : ℕ) → k < length hashes → get_or hashes k 0 ≡ 1 → get_or (set hashes j 1) k 0 ≡ 1
set-stays hashes j k h e =
    test (eqb k j)
    (λ q. ap (λ (m : ℕ). get_or (set hashes m 1) k 0) (sym (eqb-true k j q)) ∙ get_or-set_same hashes k 1 0 h)
    (λ q. get_or-set_other hashes j k 1 0 (eqb-false k j q) ∙ e)

hash-stays : (hashes xs : List ℕ) (k : ℕ) → k < length hashes → get_or hashes k 0 ≡ 1 → get_or (hash_all hashes xs) k 0 ≡ 1
unfolding hash_all
hash-stays hashes [] k h e = e
hash-stays hashes (x ∷ xs) k h e = hash-stays (set hashes (hash_place x) 1) xs k (omega (arith, length-set hashes (hash_place x) 1)) (set-stays hashes (hash_place x) k h e)

pub length-hashes : (hashes xs : List ℕ) → length (hash_all hashes xs) ≡ length hashes
unfolding hash_all
length-hashes hashes [] = refl
length-hashes hashes (x ∷ xs) = length-hashes (set hashes (hash_place x) 1) xs ∙ length-set hashes (hash_place x) 1

place_in : (o : ℕ) → hash_place o < hash_count
unfolding hash_place
place_in o = omega arith

hashes-set : (hashes xs : List ℕ) → length hashes ≡ hash_count → (j : ℕ) → j < length xs → get_or (hash_all hashes xs) (hash_place (get_or xs j 0)) 0 ≡ 1
unfolding hash_all
hashes-set hashes [] l j h = absurd (not-suc-le-zero h)
hashes-set hashes (x ∷ xs) l zero h =
    let p = place_in x in
    hash-stays (set hashes (hash_place x) 1) xs (hash_place x) (omega (arith, length-set hashes (hash_place x) 1)) (get_or-set_same hashes (hash_place x) 1 0 (omega arith))
hashes-set hashes (x ∷ xs) l (suc j) h = hashes-set (set hashes (hash_place x) 1) xs (length-set hashes (hash_place x) 1 ∙ l) j (omega arith)

-- hashed offsets have their hashes, whatever other hashes there are
pub hashed-all : (hashes xs : List ℕ) → length hashes ≡ hash_count → Hashed (hash_all hashes xs) xs
hashed-all hashes xs l = record { size = length-hashes hashes xs ∙ l; set = hashes-set hashes xs l }

-- hashes that `hash` made
pub hashed-by : (m hashes xs : List ℕ) → m ≡ hash_all hashes xs → length hashes ≡ hash_count → Hashed m xs
hashed-by m hashes xs e h = rw e (hashed-all hashes xs h)

-- behind the last offset none needs a hash
pub hashed-end : (hashes xs : List ℕ) (i : ℕ) → length xs ≤ i → length hashes ≡ hash_count → Hashed hashes (drop i xs)
hashed-end hashes xs i h l = record { size = l; set = λ j k. absurd (let z : suc j ≤ 0 = omega (arith, length-drop i xs) in not-suc-le-zero z) }

-- one offset more in front
pub hashed-more : (m hashes xs : List ℕ) (x : ℕ) → m ≡ hash_all hashes (x ∷ []) → Hashed hashes xs → Hashed m (x ∷ xs)
hashed-more m hashes xs x e h = record { size = ap length e ∙ length-hashes hashes (x ∷ []) ∙ h.size; set = sets }
  where
    sets : (j : ℕ) → j < length (x ∷ xs) → get_or m (hash_place (get_or (x ∷ xs) j 0)) 0 ≡ 1
    sets zero l = ap (λ (n : List ℕ). get_or n (hash_place x) 0) e ∙ hashes-set hashes (x ∷ []) h.size 0 (omega arith)
    sets (suc j) l =
        let p = place_in (get_or xs j 0) in
        ap (λ (n : List ℕ). get_or n (hash_place (get_or xs j 0)) 0) e ∙ hash-stays hashes (x ∷ []) (hash_place (get_or xs j 0)) (omega (arith, h.size)) (h.set j (omega arith))

-- ---- one pass

part-take : (a : List ℕ) (at n m : ℕ) → n ≤ m → take n (part a at m) ≡ part a at n
part-take a at n m h = take-take n m (drop at a) h

part-drop : (a : List ℕ) (at n m : ℕ) → at + m ≤ length a → n ≤ m → drop n (part a at m) ≡ part a (at + n) (m - n)
part-drop a at n m l h =
    let e : m ≡ n + (m - n) = omega arith in
    ap (λ (k : ℕ). drop n (part a at k)) e ∙ ap (drop n) (part-add a at n (m - n)) ∙ drop_at (part a at n) (part a (at + n) (m - n)) n (length_part a at n (omega arith))

-- the rest of the stream after a piece
pub part-rest : (a : List ℕ) (from len used : ℕ) → used ≤ length a → from + len ≤ used → drop len (part a from (used - from)) ≡ part a (from + len) (used - (from + len))
part-rest a from len used l h =
    part-drop a from len (used - from) (omega arith) (omega arith) ∙ ap (part a (from + len)) (let q : used - from - len ≡ used - (from + len) = omega arith in q)

pub kept-short : (xs : List ℕ) (rs : List Row) (st : List ℕ) → length (kept_bytes xs rs st) ≤ length st
unfolding kept_bytes
kept-short xs [] st = le_refl _
kept-short xs (r ∷ rs) st = go (listed r.off xs) (kept-short xs rs (drop r.len st))
  where
    go : (b : Bool) → length (kept_bytes xs rs (drop r.len st)) ≤ length (drop r.len st) → length (cond b (kept_bytes xs rs (drop r.len st)) (take r.len st ++ kept_bytes xs rs (drop r.len st))) ≤ length st
    go true k = omega (arith, length-drop r.len st)
    go false k = omega (arith, length-drop r.len st, length-take r.len st, length-append (take r.len st) (kept_bytes xs rs (drop r.len st)))

-- what is left to do, from row i on
abbrev pub removed : List ℕ → ℕ → ℕ → List ℕ → ℕ → ℕ → ℕ → ℕ → List ℕ
removed a n used gone from to w i =
    overwrite (overwrite a to (kept_bytes gone (rows_from a i (n - i)) (part a from (used - from)))) (place w) (table_bytes (kept_rows gone (rows_from a i (n - i))))

pub record Removing (a₀ : List ℕ) (n used : ℕ) (gone a : List ℕ) (from to w i : ℕ) : Type 0 where
  pub low : w ≤ i
  pub high : i ≤ n
  pub back : to ≤ from
  pub none : w ≡ i → to ≡ from
  pub fits : from + total (rows_from a i (n - i)) ≤ used
  pub long : length a ≡ length a₀
  pub rows : length (kept_rows gone (rows_from a₀ 0 n)) ≡ w + length (kept_rows gone (rows_from a i (n - i)))
  pub bytes : total (kept_rows gone (rows_from a₀ 0 n)) ≡ to + total (kept_rows gone (rows_from a i (n - i)))
  pub same : removed a₀ n used gone 0 0 0 0 ≡ removed a n used gone from to w i

module _ (a₀ : List ℕ) (n used : ℕ) (gone a : List ℕ) (from to w i : ℕ) (r : Row) (s : Removing a₀ n used gone a from to w i) (h : i < n) (e : r ≡ row_at a i) (u : used ≤ stream_bytes) (l : area_bytes ≤ length a₀) where
  rest : List Row
  rest = rows_from a (i + 1) (n - (i + 1))

  m : ℕ
  m = used - (from + r.len)

  at_row : rows_from a i (n - i) ≡ r ∷ rest
  unfolding rest
  at_row = rows-turn a i n r h e

  turn-total : total (rows_from a i (n - i)) ≡ r.len + total rest
  unfolding total
  turn-total = ap total at_row

  pub row_fits : from + r.len ≤ used
  row_fits = omega (arith, turn-total, s.fits)

  rest-bytes : drop r.len (part a from (used - from)) ≡ part a (from + r.len) m
  unfolding m
  rest-bytes = part-rest a from r.len used (omega (arith, s.long)) row_fits

  first-bytes : take r.len (part a from (used - from)) ≡ part a from r.len
  first-bytes = part-take a from r.len (used - from) (omega (arith, row_fits))

  kept-turn : (b : Bool) → listed r.off gone ≡ b → kept_rows gone (rows_from a i (n - i)) ≡ cond b (kept_rows gone rest) (r ∷ kept_rows gone rest)
  unfolding kept_rows
  kept-turn b t = ap (kept_rows gone) at_row ∙ ap (λ (x : Bool). cond x (kept_rows gone rest) (r ∷ kept_rows gone rest)) t

  bytes-turn : (b : Bool) → listed r.off gone ≡ b → kept_bytes gone (rows_from a i (n - i)) (part a from (used - from))
      ≡ cond b (kept_bytes gone rest (part a (from + r.len) m)) (part a from r.len ++ kept_bytes gone rest (part a (from + r.len) m))
  unfolding kept_bytes
  bytes-turn b t =
      ap (λ (x : List Row). kept_bytes gone x (part a from (used - from))) at_row
      ∙ ap (λ (x : Bool). cond x (kept_bytes gone rest (drop r.len (part a from (used - from)))) (take r.len (part a from (used - from)) ++ kept_bytes gone rest (drop r.len (part a from (used - from))))) t
      ∙ ap₂ (λ (x y : List ℕ). cond b (kept_bytes gone rest x) (y ++ kept_bytes gone rest x)) rest-bytes first-bytes

  -- the piece goes
  pub removing-gone : listed r.off gone ≡ true → Removing a₀ n used gone a (from + r.len) to w (i + 1)
  unfolding rest m
  removing-gone t = record {
    low = omega (arith, s.low);
    high = omega arith;
    back = omega (arith, s.back);
    none = λ e. absurd (omega (arith, s.low));
    fits = omega (arith, turn-total, s.fits);
    long = s.long;
    rows = s.rows ∙ ap (λ (x : List Row). w + length x) (kept-turn true t);
    bytes = s.bytes ∙ ap (λ (x : List Row). to + total x) (kept-turn true t);
    same = s.same ∙ ap₂ (λ (x : List ℕ) (y : List Row). overwrite (overwrite a to x) (place w) (table_bytes y)) (bytes-turn true t) (kept-turn true t);
  }

  -- the piece stays: its bytes move down, and its row too
  moved : List ℕ
  moved = overwrite (overwrite a to (part a from r.len)) (place w) (table_bytes (r ∷ []))

  rows-moved : rows_from moved (i + 1) (n - (i + 1)) ≡ rest
  unfolding moved rest
  rows-moved =
      let q = length_part a from r.len (omega (arith, row_fits, s.long)) in
      rows-after (overwrite a to (part a from r.len)) (place w) (table_bytes (r ∷ [])) (i + 1) (n - (i + 1)) (omega (arith, s.low))
      ∙ rows-after a to (part a from r.len) (i + 1) (n - (i + 1)) (omega (arith, row_fits, s.back))

  bytes-moved : part moved (from + r.len) m ≡ part a (from + r.len) m
  unfolding moved m
  bytes-moved =
      let q = length_part a from r.len (omega (arith, row_fits, s.long)) in
      part-before (overwrite a to (part a from r.len)) (place w) (table_bytes (r ∷ [])) (from + r.len) (used - (from + r.len)) (omega (arith, row_fits))
      ∙ part-after a to (part a from r.len) (from + r.len) (used - (from + r.len)) (omega (arith, s.back))

  removed-kept : listed r.off gone ≡ false → removed a n used gone from to w i ≡ removed moved n used gone (from + r.len) (to + r.len) (w + 1) (i + 1)
  unfolding m moved
  removed-kept t =
      let x = part a from r.len in
      let kb = kept_bytes gone rest (part a (from + r.len) m) in
      let t1 = table_bytes (r ∷ []) in
      let t2 = table_bytes (kept_rows gone rest) in
      let b = overwrite a to x in
      let q = length_part a from r.len (omega (arith, row_fits, s.long)) in
      let short : to + r.len + length kb ≤ place w = short-is in
      ap₂ (λ (y : List ℕ) (z : List Row). overwrite (overwrite a to y) (place w) (table_bytes z)) (bytes-turn false t) (kept-turn false t)
      ∙ ap (λ (y : List ℕ). overwrite y (place w) (t1 ++ t2)) (sym (over-cat a to x kb) ∙ ap (λ (k : ℕ). overwrite b (to + k) kb) q)
      ∙ sym (over-cat (overwrite b (to + r.len) kb) (place w) t1 t2)
      ∙ ap₂ (λ (y : List ℕ) (k : ℕ). overwrite y k t2) (over-comm b (to + r.len) kb (place w) t1 short) (let p : place w + 8 ≡ place (w + 1) = omega arith in p)
      ∙ last
    where
      short-is : to + r.len + length (kept_bytes gone rest (part a (from + r.len) m)) ≤ place w
      short-is = omega (arith, kept-short gone rest (part a (from + r.len) m), length_part a (from + r.len) m (omega (arith, row_fits, s.long)), row_fits, s.back)

      last : overwrite (overwrite moved (to + r.len) (kept_bytes gone rest (part a (from + r.len) m))) (place (w + 1)) (table_bytes (kept_rows gone rest))
          ≡ removed moved n used gone (from + r.len) (to + r.len) (w + 1) (i + 1)
      last =
          ap₂ (λ (y : List ℕ) (z : List Row). overwrite (overwrite moved (to + r.len) (kept_bytes gone z y)) (place (w + 1)) (table_bytes (kept_rows gone z))) (sym bytes-moved) (sym rows-moved)

  pub removing-kept : (d : List ℕ) → listed r.off gone ≡ false → d ≡ overwrite (overwrite a to (part a from r.len)) (place w) (table_bytes (r ∷ []))
      → Removing a₀ n used gone d (from + r.len) (to + r.len) (w + 1) (i + 1)
  unfolding moved total
  removing-kept d t p = rw p (record {
    low = omega (arith, s.low);
    high = omega arith;
    back = omega (arith, s.back);
    none = λ e. omega (arith, s.none (omega arith));
    fits = omega (arith, turn-total, s.fits, ap total rows-moved);
    long = length_over (overwrite a to (part a from r.len)) (place w) (table_bytes (r ∷ [])) ∙ length_over a to (part a from r.len) ∙ s.long;
    rows = omega (arith, s.rows, ap length (kept-turn false t), ap (λ (x : List Row). length (kept_rows gone x)) rows-moved);
    bytes = omega (arith, s.bytes, ap total (kept-turn false t), ap (λ (x : List Row). total (kept_rows gone x)) rows-moved);
    same = s.same ∙ removed-kept t;
  })

-- the loop's end, and the waiting bytes move down
pub removing-end : (a₀ : List ℕ) (n used : ℕ) (gone a : List ℕ) (from to w i : ℕ) → Removing a₀ n used gone a from to w i → n ≤ i
    → (record { rows = w; bytes = to }, overwrite a to (part a from (used - from))) ≡ removed_pieces gone n used a₀
unfolding kept_rows kept_bytes total removed_pieces
removing-end a₀ n used gone a from to w i s h =
    let z = rows_none a i n h in
    let zr : kept_rows gone (rows_from a i (n - i)) ≡ [] = ap (kept_rows gone) z in
    let rows : w ≡ length (kept_rows gone (rows_from a₀ 0 n)) = omega (arith, s.rows, ap length zr) in
    let bytes : to ≡ total (kept_rows gone (rows_from a₀ 0 n)) = omega (arith, s.bytes, ap total zr) in
    ap₂ (λ (k : Kept) (b : List ℕ). (k, b)) (ap₂ (λ (x y : ℕ). record { rows = x; bytes = y }) rows bytes)
    (sym (s.same ∙ ap (λ (x : List Row). overwrite (overwrite a to (kept_bytes gone x (part a from (used - from)))) (place w) (table_bytes (kept_rows gone x))) z ∙ over-nil _ _) ∙ simp sub-zero)

-- the same where every piece stays
pub removing-none : (a₀ : List ℕ) (n used : ℕ) (gone a : List ℕ) (from to w i : ℕ) → Removing a₀ n used gone a from to w i → n ≤ i → w ≡ n
    → (record { rows = n; bytes = from }, a) ≡ removed_pieces gone n used a₀
removing-none a₀ n used gone a from to w i s h e =
    let f : to ≡ from = s.none (omega (arith, s.high)) in
    ap₂ (λ (x y : ℕ). (record { rows = x; bytes = y }, a)) (sym e) (sym f)
    ∙ ap (λ (b : List ℕ). (record { rows = w; bytes = to }, b)) (sym (ap (λ (k : ℕ). overwrite a k (part a from (used - from))) f ∙ over-part a from (used - from)))
    ∙ removing-end a₀ n used gone a from to w i s h

-- a piece that lies where it goes
pub move-none : (a : List ℕ) → Bytes a → (i w from to : ℕ) (r : Row) → i < max_pieces → area_bytes ≤ length a → r ≡ row_at a i → to ≡ from → w ≡ i
    → a ≡ overwrite (overwrite a to (part a from r.len)) (place w) (table_bytes (r ∷ []))
move-none a b i w from to r h l e f g =
    sym
    (ap₂ (λ (j k : ℕ). overwrite (overwrite a j (part a from r.len)) (place k) (table_bytes (r ∷ []))) f g
    ∙ ap₂ (λ (x : List ℕ) (y : Row). overwrite x (place i) (table_bytes (y ∷ []))) (over-part a from r.len) e
    ∙ table_kept a b i 1 (omega arith))

-- what `remove_pieces` leaves, fact by fact
pub removed-facts : (gone : List ℕ) (n used : ℕ) (a : List ℕ) (k : Kept) (b : List ℕ) → (k, b) ≡ removed_pieces gone n used a
    → (k.rows ≡ length (kept_rows gone (rows_from a 0 n))) × (k.bytes ≡ total (kept_rows gone (rows_from a 0 n)))
    × (b ≡ with_rows (overwrite a 0 (kept_bytes gone (rows_from a 0 n) (part a 0 used))) 0 (kept_rows gone (rows_from a 0 n)))
unfolding removed_pieces
removed-facts gone n used a k b e = (ap (λ (x : Kept × List ℕ). x.0.rows) e, ap (λ (x : Kept × List ℕ). x.0.bytes) e, ap (λ (x : Kept × List ℕ). x.1) e)
