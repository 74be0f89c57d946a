-- Laws of the slots: turns of the loops that choose pieces, and how many there are.
-- Assumes nothing.
use mathlib.Core.Path.{◌≡◌, refl, sym, ap, ap₂, ◌∙◌}
use mathlib.Core.List.{List, [], ◌∷◌, ◌++◌}
use mathlib.Core.Bool.{Bool, true, false, cond}
use mathlib.Core.Logic.{◌⊎◌, inl, inr, ⊎_elim}
use Prim.Native.Nat.{ℕ, zero, suc, ◌+◌, ◌-◌, ◌≤◌, ◌<◌, min, suc-le-suc}
use native.Mathlib.Nat.{add-zero, add_assoc, not-suc-le-zero}
use native.Mathlib.Omega.{arith}
use native.Mathlib.Numerals.{add-one, sub-one}
use lib.ListN.{length, take, drop, get_or, drop_of_length-le}
use lib.Seq.{drop-cons}
use Rattle.harq.specs.declared.Harq.{Harq}
use Rattle.area.specs.Find.{find_from}
use Rattle.laws.specs.Bytes.{overwrite}
use Rattle.laws.proofs.Bytes.{length_over, over-nil, over-cat}
use Rattle.area.specs.Layout.{place, stream_bytes}
use Rattle.area.specs.Table.{row_at, rows_from, table_bytes, total}
use Rattle.area.specs.declared.table.Row.{Row}
use Rattle.area.proofs.table.Laws.{rows-turn}
use Rattle.laws.specs.Lists.{listed}
use Rattle.frames.specs.declared.slots.Slot.{Slot}
use Rattle.frames.specs.declared.slots.Slots.{Slots}
use Rattle.frames.specs.declared.slots.Added.{Added}
use Rattle.frames.specs.Slots.{slot_pushed, push_all, whole_slot, unheld_slots, increment_slot, increment_slots, chunk_rows, added_pieces}
use Rattle.limits.specs.Limits.{max_slots, max_pieces}
use Rattle.area.specs.TableCode.{with_rows}

take_more : {A : Type 0} (n : ℕ) (x : A) (xs : List A) → 0 < n → take n (x ∷ xs) ≡ x ∷ take (n - 1) xs
take_more zero x xs h = absurd (not-suc-le-zero h)
take_more (suc n) x xs h = rw sub-one refl

-- ---- pieces that are not held

pub record Choosing (s₀ : Slots) (a : List ℕ) (n : ℕ) (held : List ℕ) (room bits : ℕ) (s : Slots) (left start i : ℕ) : Type 0 where
  pub high : i ≤ n
  pub space : s.n + left ≤ max_slots
  pub fits : start + total (rows_from a i (n - i)) ≤ stream_bytes
  pub same : push_all s₀ (take room (unheld_slots held bits 0 (rows_from a 0 n))) ≡ push_all s (take left (unheld_slots held bits start (rows_from a i (n - i))))

pub choosing-full : (s₀ : Slots) (a : List ℕ) (n : ℕ) (held : List ℕ) (room bits : ℕ) (s : Slots) (left start i : ℕ) → Choosing s₀ a n held room bits s left start i → left ≡ 0
    → s ≡ push_all s₀ (take room (unheld_slots held bits 0 (rows_from a 0 n)))
unfolding push_all
choosing-full s₀ a n held room bits s left start i c e = sym (c.same ∙ ap (λ (k : ℕ). push_all s (take k (unheld_slots held bits start (rows_from a i (n - i))))) e)

take_none : {A : Type 0} (n : ℕ) → ◌≡◌ {A = List A} (take n []) []
take_none zero = refl
take_none (suc n) = refl

pub choosing-end : (s₀ : Slots) (a : List ℕ) (n : ℕ) (held : List ℕ) (room bits : ℕ) (s : Slots) (left start i : ℕ) → Choosing s₀ a n held room bits s left start i → n ≤ i
    → s ≡ push_all s₀ (take room (unheld_slots held bits 0 (rows_from a 0 n)))
unfolding push_all unheld_slots
choosing-end s₀ a n held room bits s left start i c h =
    sym (c.same ∙ ap (λ (k : ℕ). push_all s (take left (unheld_slots held bits start (rows_from a i k)))) (let e : n - i ≡ 0 = omega arith in e) ∙ ap (push_all s) (take_none left))

module _ (s₀ : Slots) (a : List ℕ) (n : ℕ) (held : List ℕ) (room bits : ℕ) (s : Slots) (left start i : ℕ) (r : Row) (c : Choosing s₀ a n held room bits s left start i) (h : i < n) (e : r ≡ row_at a i) where
  abbrev rest : List Row
  rest = rows_from a (i + 1) (n - (i + 1))

  at_row : rows_from a i (n - i) ≡ r ∷ rest
  at_row = rows-turn a i n r h e

  pub choosing-fits : start + r.len + total rest ≤ stream_bytes
  unfolding total
  choosing-fits = omega (arith, ap total at_row, c.fits)

  turn : (b : Bool) → listed r.off held ≡ b → unheld_slots held bits start (rows_from a i (n - i)) ≡ cond b (unheld_slots held bits (start + r.len) rest) (whole_slot bits start r ∷ unheld_slots held bits (start + r.len) rest)
  unfolding unheld_slots
  turn b t = ap (unheld_slots held bits start) at_row ∙ ap (λ (x : Bool). cond x (unheld_slots held bits (start + r.len) rest) (whole_slot bits start r ∷ unheld_slots held bits (start + r.len) rest)) t

  pub choosing-held : listed r.off held ≡ true → Choosing s₀ a n held room bits s left (start + r.len) (i + 1)
  choosing-held t = record { high = omega arith; space = c.space; fits = choosing-fits; same = c.same ∙ ap (λ (x : List Slot). push_all s (take left x)) (turn true t) }

  pub choosing-unheld : (q : Slots) → q ≡ slot_pushed s (whole_slot bits start r) → listed r.off held ≡ false → 0 < left → Choosing s₀ a n held room bits q (left - 1) (start + r.len) (i + 1)
  unfolding push_all slot_pushed
  choosing-unheld q p t l = record {
    high = omega arith;
    space = omega (arith, c.space, ap (λ (x : Slots). x.n) p);
    fits = choosing-fits;
    same = c.same ∙ ap (λ (x : List Slot). push_all s (take left x)) (turn false t) ∙ ap (push_all s) (take_more left (whole_slot bits start r) (unheld_slots held bits (start + r.len) rest) l)
        ∙ ap (λ (x : Slots). push_all x (take (left - 1) (unheld_slots held bits (start + r.len) rest))) (sym p);
  }

-- ---- new pieces

chunk-turn : (k m o w : ℕ) → 0 < k → 0 < w → chunk_rows k m o w ≡ record { off = o; len = min m w } ∷ chunk_rows (k - 1) m (o + min m w) (w - min m w)
unfolding chunk_rows
chunk-turn zero m o w h g = absurd (not-suc-le-zero h)
chunk-turn (suc k) m o zero h g = absurd (not-suc-le-zero g)
chunk-turn (suc k) m o (suc w) h g = rw sub-one refl

chunk-none : (k m o w : ℕ) → (k ≡ 0) ⊎ (w ≡ 0) → chunk_rows k m o w ≡ []
unfolding chunk_rows
chunk-none zero m o w h = refl
chunk-none (suc k) m o zero h = refl
chunk-none (suc k) m o (suc w) h = absurd (⊎_elim (λ e. omega arith) (λ e. omega arith) h)

pub record Adding (s₀ : Slots) (a₀ : List ℕ) (n room max next at w bits : ℕ) (a : List ℕ) (s : Slots) (left done i : ℕ) : Type 0 where
  pub within : done ≤ w
  pub space : s.n + left ≤ max_slots
  pub rows : i + left ≤ max_pieces
  pub long : length a ≡ length a₀
  pub slots : push_all s₀ (unheld_slots [] bits at (chunk_rows room max next w)) ≡ push_all s (unheld_slots [] bits (at + done) (chunk_rows left max (next + done) (w - done)))
  pub count : n + length (chunk_rows room max next w) ≡ i + length (chunk_rows left max (next + done) (w - done))
  pub bytes : total (chunk_rows room max next w) ≡ done + total (chunk_rows left max (next + done) (w - done))
  pub same : overwrite a₀ (place n) (table_bytes (chunk_rows room max next w)) ≡ overwrite a (place i) (table_bytes (chunk_rows left max (next + done) (w - done)))

module _ (s₀ : Slots) (a₀ : List ℕ) (n room max next at w bits : ℕ) (a : List ℕ) (s : Slots) (left done i : ℕ) (g : Adding s₀ a₀ n room max next at w bits a s left done i) where
  pub adding-end : (left ≡ 0) ⊎ (w ≤ done)
      → (record { slots = s; rows = i; bytes = done }, a) ≡ added_pieces a₀ n room max next at w bits s₀
  unfolding push_all unheld_slots total added_pieces
  adding-end h =
      let z : chunk_rows left max (next + done) (w - done) ≡ [] = chunk-none left max (next + done) (w - done) (⊎_elim (λ e. inl e) (λ e. inr (omega arith)) h) in
      let p : s ≡ push_all s₀ (unheld_slots [] bits at (chunk_rows room max next w)) = sym (g.slots ∙ ap (λ (x : List Row). push_all s (unheld_slots [] bits (at + done) x)) z) in
      let m : i ≡ n + length (chunk_rows room max next w) = omega (arith, g.count, ap length z) in
      let b : done ≡ total (chunk_rows room max next w) = omega (arith, g.bytes, ap total z) in
      ap₂ (λ (x : Added) (y : List ℕ). (x, y)) (ap₂ (λ (x : Slots) (k : ℕ × ℕ). record { slots = x; rows = k.0; bytes = k.1 }) p (ap₂ (λ (x y : ℕ). (x, y)) m b))
      (sym (g.same ∙ ap (λ (x : List Row). overwrite a (place i) (table_bytes x)) z ∙ over-nil _ _))

  module _ (l : ℕ) (e : l ≡ min max (w - done)) (more : 0 < left) (some : done < w) (m : 1 ≤ max) where
    abbrev r : Row
    r = record { off = next + done; len = l }

    abbrev rest' : List Row
    rest' = chunk_rows (left - 1) max (next + (done + l)) (w - (done + l))

    turned : chunk_rows left max (next + done) (w - done) ≡ r ∷ rest'
    turned =
        chunk-turn left max (next + done) (w - done) more (omega arith)
        ∙ ap (λ (k : ℕ). record { off = next + done; len = k } ∷ chunk_rows (left - 1) max (next + done + k) (w - done - k)) (sym e)
        ∙ ap₂ (λ (x y : ℕ). r ∷ chunk_rows (left - 1) max x y) (add_assoc next done l) (let q : w - done - l ≡ w - (done + l) = omega arith in q)

    pub adding-turn : (d : List ℕ) (q : Slots) → d ≡ overwrite a (place i) (table_bytes (r ∷ [])) → q ≡ slot_pushed s (whole_slot bits (at + done) r)
        → Adding s₀ a₀ n room max next at w bits d q (left - 1) (done + l) (i + 1)
    unfolding push_all slot_pushed unheld_slots total
    adding-turn d q p u = record {
      within = omega arith;
      space = omega (arith, g.space, ap (λ (x : Slots). x.n) u);
      rows = omega (arith, g.rows);
      long = ap length p ∙ length_over a (place i) (table_bytes (r ∷ [])) ∙ g.long;
      slots = g.slots ∙ ap (λ (x : List Row). push_all s (unheld_slots [] bits (at + done) x)) turned
          ∙ ap₂ (λ (x : Slots) (k : ℕ). push_all x (unheld_slots [] bits k rest')) (sym u) (add_assoc at done l);
      count = omega (arith, g.count, ap length turned);
      bytes = omega (arith, g.bytes, ap total turned);
      same = g.same ∙ ap (λ (x : List Row). overwrite a (place i) (table_bytes x)) turned
          ∙ sym (over-cat a (place i) (table_bytes (r ∷ [])) (table_bytes rest'))
          ∙ ap₂ (λ (x : List ℕ) (k : ℕ). overwrite x k (table_bytes rest')) (sym p) (let t : place i + 8 ≡ place (i + 1) = omega arith in t);
    }

-- what `new_pieces` leaves, fact by fact
pub new-facts : (a : List ℕ) (n room max next at w bits : ℕ) (s : Slots) (k : Added) (b : List ℕ) → (k, b) ≡ added_pieces a n room max next at w bits s
    → (k.slots ≡ push_all s (unheld_slots [] bits at (chunk_rows room max next w))) × (k.rows ≡ n + length (chunk_rows room max next w))
    × (k.bytes ≡ total (chunk_rows room max next w)) × (b ≡ with_rows a n (chunk_rows room max next w))
unfolding added_pieces
new-facts a n room max next at w bits s k b e =
    (ap (λ (x : Added × List ℕ). x.0.slots) e, ap (λ (x : Added × List ℕ). x.0.rows) e, ap (λ (x : Added × List ℕ). x.0.bytes) e, ap (λ (x : Added × List ℕ). x.1) e)

-- ---- increments

module _ (q : Harq) (slot : ℕ) (rs : List Row) (os hs : List ℕ) (i : ℕ) (s : Slots) where
  pub increments-turn : (t : Slots) → i < length os → i < length hs → t ≡ slot_pushed s (increment_slot q slot (get_or os i 0) (get_or hs i 0) (find_from (get_or os i 0) 0 rs))
      → push_all s (increment_slots q slot rs (drop i os) (drop i hs)) ≡ push_all t (increment_slots q slot rs (drop (i + 1) os) (drop (i + 1) hs))
  unfolding increment_slots push_all
  increments-turn t h k e =
      ap₂ (λ (x y : List ℕ). push_all s (increment_slots q slot rs x y)) (drop-cons os i 0 h ∙ ap (λ (j : ℕ). get_or os i 0 ∷ drop j os) (sym (add-one i))) (drop-cons hs i 0 k ∙ ap (λ (j : ℕ). get_or hs i 0 ∷ drop j hs) (sym (add-one i)))
      ∙ ap (λ (x : Slots). push_all x (increment_slots q slot rs (drop (i + 1) os) (drop (i + 1) hs))) (sym e)

  pub increments-end : length os ≤ i → push_all s (increment_slots q slot rs (drop i os) (drop i hs)) ≡ s
  unfolding increment_slots push_all
  increments-end h = ap (λ (x : List ℕ). push_all s (increment_slots q slot rs x (drop i hs))) (drop_of_length-le os h)

-- ---- how many there are

pub push-all-count : (s : Slots) (xs : List Slot) → (push_all s xs).n ≡ s.n + length xs
unfolding push_all slot_pushed
push-all-count s [] = sym (add-zero _)
push-all-count s (x ∷ xs) = push-all-count (slot_pushed s x) xs ∙ omega arith

pub push-all-append : (s : Slots) (xs ys : List Slot) → push_all (push_all s xs) ys ≡ push_all s (xs ++ ys)
unfolding push_all
push-all-append s [] ys = refl
push-all-append s (x ∷ xs) ys = push-all-append (slot_pushed s x) xs ys

pub increments-length : (q : Harq) (slot : ℕ) (rs : List Row) (os hs : List ℕ) → length (increment_slots q slot rs os hs) ≤ length os
unfolding increment_slots
increments-length q slot rs [] hs = omega arith
increments-length q slot rs (o ∷ os) [] = omega arith
increments-length q slot rs (o ∷ os) (h ∷ hs) = suc-le-suc (increments-length q slot rs os hs)

pub chunk-total : (k m o w : ℕ) → total (chunk_rows k m o w) ≤ w
unfolding chunk_rows total
chunk-total zero m o w = omega arith
chunk-total (suc k) m o zero = omega arith
chunk-total (suc k) m o (suc w) = omega (arith, chunk-total k m (o + min m (suc w)) (suc w - min m (suc w)))
