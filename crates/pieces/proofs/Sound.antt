-- The sound record's tests are the ledger's `Ascend`, `size`, `short_frames`, `Flying`, `HeldBits` and `SentBits`, both ways.
-- Assumes nothing.
use mathlib.Core.Path.{◌≡◌, refl, sym, ap, ap₂, subst, ◌∙◌}
use mathlib.Core.List.{List, [], ◌∷◌, ◌++◌}
use mathlib.Core.Bool.{Bool, true, false, not, ◌&&◌, ◌||◌, true≢false}
use Prim.Native.Nat.{ℕ, ◌+◌, ◌≤◌, ◌<◌}
use native.Mathlib.Nat.{suc_inj, zero-add}
use native.Mathlib.Omega.{arith}
use lib.ListN.{length, take, drop, length-drop}
use lib.Seq.{length-take-le}
use lib.Dec.{leb, ltb, eqb}
use borrow.Author.Tests.{leb-true, ltb-true, eqb-true, le-leb, lt-ltb, eq-eqb, not-true}
use Rattle.laws.specs.Lists.{listed, Distinct, AllListed}
use Rattle.laws.proofs.Picks.{and_yes, and_first, and_second, or_no}
use Rattle.area.specs.declared.table.Row.{Row}
use Rattle.area.specs.Table.{total}
use Rattle.area_check.specs.Rows.{ascends, short_frames_of, row_offs, table_ok, all_flying, held_bits_ok, sent_bits_ok, none_listed}
use Rattle.ledger.specs.Ledger.{size, offs}
use Rattle.ledger.specs.Cover.{ceil}
use Rattle.ledger.specs.Sound.{Flying, HeldBits, SentBits}
use Rattle.ledger.proofs.ShortFrames.{pieces-short_frames}
use Rattle.pieces.specs.Pieces.{pieces_of}
use Rattle.pieces.specs.Lists.{held_of, sent_of}
use Rattle.limits.specs.Limits.{max_pieces, max_bits, max_held}
use Rattle.ledger.specs.CoverCode.{Ascend, short_frames}

pub offs-rows : (rs : List Row) (st : List ℕ) → offs (pieces_of rs st) ≡ row_offs rs
offs-rows [] st = refl
offs-rows (r ∷ rs) st = ap (λ (l : List ℕ). r.off ∷ l) (offs-rows rs (drop r.len st))

-- where the stream has all of the rows' bytes: the first row's are all there, and so are the others'
pub head-length : (r : Row) (rs : List Row) (st : List ℕ) → total (r ∷ rs) ≤ length st → (length (take r.len st) ≡ r.len) × (total rs ≤ length (drop r.len st))
unfolding total
head-length r rs st h = (length-take-le r.len st (omega arith), omega (arith, length-drop r.len st))

pub size-rows : (rs : List Row) (st : List ℕ) → total rs ≤ length st → size (pieces_of rs st) ≡ total rs
unfolding total
size-rows [] st h = refl
size-rows (r ∷ rs) st h =
    let e = head-length r rs st h in
    ap₂ (λ (x y : ℕ). x + y) e.0 (size-rows rs (drop r.len st) e.1)

pub short-rows : (s : ℕ) (rs : List Row) (st : List ℕ) → total rs ≤ length st → short_frames s (pieces_of rs st) ≡ short_frames_of s rs
unfolding short_frames_of
short-rows s [] st h = refl
short-rows s (r ∷ rs) st h =
    let e = head-length r rs st h in
    ap₂ (λ (x y : ℕ). ceil x s + y) e.0 (short-rows s rs (drop r.len st) e.1)

pub ascends-pieces : (m n k : ℕ) (rs : List Row) (st : List ℕ) → total rs ≤ length st → ascends m n k rs ≡ true → Ascend m k n (pieces_of rs st)
unfolding ascends
ascends-pieces m n k [] st h f = leb-true k n f
ascends-pieces m n k (r ∷ rs) st h f =
    let e = head-length r rs st h in
    let p = and_second (leb k r.off) (ltb 0 r.len && (leb r.len m && ascends m n (r.off + r.len) rs)) f in
    let q = and_second (ltb 0 r.len) (leb r.len m && ascends m n (r.off + r.len) rs) p in
    let a = leb-true k r.off (and_first _ _ f) in
    let b = ltb-true 0 r.len (and_first _ _ p) in
    let c = leb-true r.len m (and_first _ _ q) in
    (a, omega (arith, e.0, b), omega (arith, e.0, c), rw e.0 (ascends-pieces m n (r.off + r.len) rs (drop r.len st) e.1 (and_second (leb r.len m) _ q)))

pub pieces-ascend : (m n k : ℕ) (rs : List Row) (st : List ℕ) → total rs ≤ length st → Ascend m k n (pieces_of rs st) → ascends m n k rs ≡ true
unfolding ascends
pieces-ascend m n k [] st h f = le-leb k n f
pieces-ascend m n k (r ∷ rs) st h f =
    let e = head-length r rs st h in
    let z : 0 < r.len = omega (arith, e.0, f.1) in
    let w : r.len ≤ m = omega (arith, e.0, f.2) in
    and_yes _ _ (le-leb k r.off f.0) (and_yes _ _ (lt-ltb 0 r.len z) (and_yes _ _ (le-leb r.len m w)
    (pieces-ascend m n (r.off + r.len) rs (drop r.len st) e.1 (subst (λ (l : ℕ). Ascend m (r.off + l) n (pieces_of rs (drop r.len st))) e.0 f.3))))

pub length-pieces : (rs : List Row) (st : List ℕ) → length (pieces_of rs st) ≡ length rs
length-pieces [] st = refl
length-pieces (r ∷ rs) st = rw (length-pieces rs (drop r.len st))

pub total-append : (rs ss : List Row) → total (rs ++ ss) ≡ total rs + total ss
unfolding total
total-append [] ss = sym (zero-add (total ss))
total-append (r ∷ rs) ss = omega (arith, total-append rs ss)

-- ---- the whole table

pub table-total : (short long next flying : ℕ) (rs : List Row) → table_ok short long next flying rs ≡ true → total rs ≡ flying
unfolding table_ok
table-total short long next flying rs h = eqb-true (total rs) flying (and_first _ (leb (short_frames_of short rs) max_pieces) (and_second (ascends long next 0 rs) _ h))

module _ (short long next flying : ℕ) (rs : List Row) (st : List ℕ) (fits : total rs ≤ length st) where
  pub table-pieces : table_ok short long next flying rs ≡ true
      → Ascend long 0 next (pieces_of rs st) × (size (pieces_of rs st) ≡ flying) × (short_frames short (pieces_of rs st) ≤ max_pieces)
  unfolding table_ok
  table-pieces h =
      let q = and_second (ascends long next 0 rs) (eqb (total rs) flying && leb (short_frames_of short rs) max_pieces) h in
      let f = leb-true (short_frames_of short rs) max_pieces (and_second (eqb (total rs) flying) _ q) in
      (ascends-pieces long next 0 rs st fits (and_first _ _ h), size-rows rs st fits ∙ table-total short long next flying rs h, rw (short-rows short rs st fits) f)

  pub pieces-table : Ascend long 0 next (pieces_of rs st) → size (pieces_of rs st) ≡ flying → short_frames short (pieces_of rs st) ≤ max_pieces
      → table_ok short long next flying rs ≡ true
  unfolding table_ok
  pieces-table a s f =
      and_yes _ _ (pieces-ascend long next 0 rs st fits a)
      (and_yes _ _ (eq-eqb (total rs) flying (sym (size-rows rs st fits) ∙ s)) (le-leb (short_frames_of short rs) max_pieces (rw (← short-rows short rs st fits) f)))

-- ---- offsets that are distinct and flying

distinct-offs : (xs os : List ℕ) → all_flying xs os ≡ true → Distinct xs × AllListed xs os
unfolding all_flying
distinct-offs [] os h = (tt, tt)
distinct-offs (x ∷ xs) os h =
    let p = and_first (listed x os && not (listed x xs)) (all_flying xs os) h in
    let i = distinct-offs xs os (and_second (listed x os && not (listed x xs)) (all_flying xs os) h) in
    ((not-true (listed x xs) (and_second (listed x os) _ p), i.0), (and_first (listed x os) _ p, i.1))

offs-distinct : (xs os : List ℕ) → Distinct xs → AllListed xs os → all_flying xs os ≡ true
unfolding all_flying
offs-distinct [] os d a = refl
offs-distinct (x ∷ xs) os d a = and_yes _ _ (and_yes _ _ a.0 (ap not d.0)) (offs-distinct xs os d.1 a.1)

listed-append : (x : ℕ) (xs ys : List ℕ) → listed x (xs ++ ys) ≡ (listed x xs || listed x ys)
listed-append x [] ys = refl
listed-append x (y ∷ xs) ys = ap (λ (b : Bool). eqb x y || b) (listed-append x xs ys) ∙ or_assoc (eqb x y) (listed x xs) (listed x ys)
  where
    or_assoc : (a b c : Bool) → (a || (b || c)) ≡ ((a || b) || c)
    or_assoc true b c = refl
    or_assoc false b c = refl

or-first : (a b : Bool) → (a || b) ≡ false → a ≡ false
or-first true b h = h
or-first false b h = refl

or-second : (a b : Bool) → (a || b) ≡ false → b ≡ false
or-second true b h = absurd (true≢false h)
or-second false b h = h

distinct-two : (xs ys : List ℕ) → Distinct xs → Distinct ys → none_listed xs ys ≡ true → Distinct (xs ++ ys)
unfolding none_listed
distinct-two [] ys d e h = e
distinct-two (x ∷ xs) ys d e h =
    let n = not-true (listed x ys) (and_first _ (none_listed xs ys) h) in
    (listed-append x xs ys ∙ or_no _ _ d.0 n, distinct-two xs ys d.1 e (and_second (not (listed x ys)) _ h))

two-distinct : (xs ys : List ℕ) → Distinct (xs ++ ys) → Distinct xs × Distinct ys × (none_listed xs ys ≡ true)
unfolding none_listed
two-distinct [] ys d = (tt, d, refl)
two-distinct (x ∷ xs) ys d =
    let n = sym (listed-append x xs ys) ∙ d.0 in
    let i = two-distinct xs ys d.1 in
    ((or-first (listed x xs) (listed x ys) n, i.0), i.1, and_yes _ _ (ap not (or-second (listed x xs) (listed x ys) n)) i.2)

all_two : (xs ys os : List ℕ) → AllListed xs os → AllListed ys os → AllListed (xs ++ ys) os
all_two [] ys os a b = b
all_two (x ∷ xs) ys os a b = (a.0, all_two xs ys os a.1 b)

two-all : (xs ys os : List ℕ) → AllListed (xs ++ ys) os → AllListed xs os × AllListed ys os
two-all [] ys os a = (tt, a)
two-all (x ∷ xs) ys os a = let i = two-all xs ys os a.1 in ((a.0, i.0), i.1)

module _ (rs : List Row) (st : List ℕ) where
  pub flying-pieces : (xs : List ℕ) → all_flying xs (row_offs rs) ≡ true → Flying xs (pieces_of rs st)
  flying-pieces xs h = let d = distinct-offs xs (row_offs rs) h in (d.0, subst (AllListed xs) (sym (offs-rows rs st)) d.1)

  pub pieces-flying : (xs : List ℕ) → Flying xs (pieces_of rs st) → all_flying xs (row_offs rs) ≡ true
  pieces-flying xs f = offs-distinct xs (row_offs rs) f.0 (subst (AllListed xs) (offs-rows rs st) f.1)

  -- of two lists together
  pub flying-two : (xs ys : List ℕ) → all_flying xs (row_offs rs) ≡ true → all_flying ys (row_offs rs) ≡ true → none_listed xs ys ≡ true → Flying (xs ++ ys) (pieces_of rs st)
  flying-two xs ys h k n =
      let d = flying-pieces xs h in
      let e = flying-pieces ys k in
      (distinct-two xs ys d.0 e.0 n, all_two xs ys (offs (pieces_of rs st)) d.1 e.1)

  pub two-flying : (xs ys : List ℕ) → Flying (xs ++ ys) (pieces_of rs st) → (all_flying xs (row_offs rs) ≡ true) × (all_flying ys (row_offs rs) ≡ true) × (none_listed xs ys ≡ true)
  two-flying xs ys f =
      let d = two-distinct xs ys f.0 in
      let a = two-all xs ys (offs (pieces_of rs st)) f.1 in
      (pieces-flying xs (d.0, a.0), pieces-flying ys (d.1, a.1), d.2)

-- ---- bits

pub held-bits : (top : ℕ) (os bs : List ℕ) → held_bits_ok top bs ≡ true → HeldBits top (held_of os bs)
unfolding held_bits_ok
held-bits top [] bs h = tt
held-bits top (o ∷ os) [] h = tt
held-bits top (o ∷ os) (b ∷ bs) h =
    let q = and_second (ltb 0 b) (ltb b top && held_bits_ok top bs) h in
    (ltb-true 0 b (and_first _ _ h), ltb-true b top (and_first _ _ q), held-bits top os bs (and_second (ltb b top) _ q))

pub bits-held : (top : ℕ) (os bs : List ℕ) → length os ≡ length bs → HeldBits top (held_of os bs) → held_bits_ok top bs ≡ true
unfolding held_bits_ok
bits-held top [] [] e h = refl
bits-held top [] (b ∷ bs) e h = absurd (omega arith)
bits-held top (o ∷ os) [] e h = refl
bits-held top (o ∷ os) (b ∷ bs) e h = and_yes _ _ (lt-ltb 0 b h.0) (and_yes _ _ (lt-ltb b top h.1) (bits-held top os bs (suc_inj e) h.2))

pub sent-bits : (os bs hs : List ℕ) → sent_bits_ok bs hs ≡ true → SentBits (sent_of os bs hs)
unfolding sent_bits_ok
sent-bits [] bs hs h = tt
sent-bits (o ∷ os) [] hs h = tt
sent-bits (o ∷ os) (b ∷ bs) [] h = tt
sent-bits (o ∷ os) (b ∷ bs) (x ∷ hs) h =
    let p = and_first (ltb 0 b && leb b max_bits) ((leb b x && leb x max_held) && sent_bits_ok bs hs) h in
    let q = and_second (ltb 0 b && leb b max_bits) ((leb b x && leb x max_held) && sent_bits_ok bs hs) h in
    let r = and_first (leb b x && leb x max_held) (sent_bits_ok bs hs) q in (
      ltb-true 0 b (and_first _ _ p),
      leb-true b max_bits (and_second (ltb 0 b) _ p),
      leb-true b x (and_first _ _ r),
      leb-true x max_held (and_second (leb b x) _ r),
      sent-bits os bs hs (and_second (leb b x && leb x max_held) _ q),
    )

pub bits-sent : (os bs hs : List ℕ) → length os ≡ length bs → length os ≡ length hs → SentBits (sent_of os bs hs) → sent_bits_ok bs hs ≡ true
unfolding sent_bits_ok
bits-sent [] [] hs e f h = refl
bits-sent [] (b ∷ bs) hs e f h = absurd (omega arith)
bits-sent (o ∷ os) [] hs e f h = refl
bits-sent (o ∷ os) (b ∷ bs) [] e f h = refl
bits-sent (o ∷ os) (b ∷ bs) (x ∷ hs) e f h =
    and_yes _ _ (and_yes _ _ (lt-ltb 0 b h.0) (le-leb b max_bits h.1))
    (and_yes _ _ (and_yes _ _ (le-leb b x h.2) (le-leb x max_held h.3)) (bits-sent os bs hs (suc_inj e) (suc_inj f) h.4))
