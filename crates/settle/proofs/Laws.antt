-- Turns of the loops over a burst's frames.
-- Assumes nothing.
use mathlib.Core.Path.{◌≡◌, refl, sym, ap, ap₂, ◌∙◌}
use mathlib.Core.List.{List, [], ◌∷◌, ◌++◌, map}
use mathlib.Core.Bool.{Bool, true, false, cond, not, ◌&&◌}
use Prim.Native.Nat.{ℕ, ◌+◌, ◌/◌, ◌%◌, ◌≤◌, ◌<◌}
use native.Mathlib.Omega.{arith}
use native.Mathlib.Numerals.{add-one}
use lib.ListN.{length, take, drop, get_or, set, replicate, drop_of_length-le, length-append, length-map, length-replicate}
use lib.Seq.{drop-cons, take-length}
use lib.Dec.{ltb, eqb}
use borrow.Author.Tests.{eq-eqb, ne_eqb}
use Rattle.laws.specs.Bytes.{overwrite}
use Rattle.laws.proofs.Bytes.{set-over, over-cat, over-nil, length_over, part-inside}
use Rattle.ledger.specs.Ledger.{Held, held_offs}
use Rattle.pieces.specs.Lists.{held_of}
use Rattle.pieces.proofs.Lists.{held-drop}
use Rattle.record.specs.Setters.{with_link, with_counts, with_at_peer, with_last_burst, without_frames}
use Rattle.record.specs.View.{rest_in}
use Rattle.record.specs.declared.AtPeer.{AtPeer}
use Rattle.record.specs.declared.LastBurst.{LastBurst}
use Rattle.record.specs.declared.Sender.{Sender}
use Rattle.area.specs.declared.removal.Kept.{Kept}
use Rattle.area.specs.Removal.{removed_pieces}
use Rattle.settle.specs.declared.Offsets.{Offsets}
use Rattle.settle.specs.Settle.{acked_in, offsets_of, missed_in, with_more_held, held_none, new_held, unawaited, with_flight, settled}
use Rattle.limits.specs.Limits.{max_slots}

step : (l : List ℕ) (i : ℕ) → i < length l → drop i l ≡ get_or l i 0 ∷ drop (i + 1) l
step l i h = drop-cons l i 0 h ∙ ap (λ (k : ℕ). get_or l i 0 ∷ drop k l) (sym (add-one i))

-- ---- acknowledged

-- n offsets are there, and xs follow
abbrev pub more : List ℕ → ℕ → List ℕ → Offsets
more off n xs = record { off = overwrite off n xs; n = n + length xs }

pub more-start : (xs : List ℕ) → offsets_of xs ≡ more (replicate max_slots 0) 0 xs
unfolding offsets_of
more-start xs = let e : length xs ≡ 0 + length xs = omega arith in ap (λ (k : ℕ). record { off = overwrite (replicate max_slots 0) 0 xs; n = k }) e

more-cons : (off : List ℕ) (n x : ℕ) (xs : List ℕ) → more off n (x ∷ xs) ≡ more (set off n x) (n + 1) xs
more-cons off n x xs =
    let e : n + length (x ∷ xs) ≡ n + 1 + length xs = omega arith in
    ap₂ (λ (l : List ℕ) (k : ℕ). record { off = l; n = k }) (sym (ap (λ (l : List ℕ). overwrite l (n + 1) xs) (set-over off n x) ∙ over-cat off n (x ∷ []) xs)) e

pub more-end : (off : List ℕ) (n : ℕ) (xs : List ℕ) → xs ≡ [] → more off n xs ≡ record { off = off; n = n }
more-end off n xs e =
    let z : n + 0 ≡ n = omega arith in
    ap (more off n) e ∙ ap₂ (λ (l : List ℕ) (k : ℕ). record { off = l; n = k }) (over-nil off n) z

module _ (m : ℕ) (os : List ℕ) (i : ℕ) (h : i < length os) where
  abbrev after : List ℕ
  after = acked_in (m / 2) (drop (i + 1) os)

  acked-step : acked_in m (drop i os) ≡ cond (eqb (m % 2) 1) (get_or os i 0 ∷ after) after
  unfolding acked_in
  acked-step = ap (acked_in m) (step os i h)

  pub acked-yes : (off : List ℕ) (n : ℕ) → m % 2 ≡ 1 → more off n (acked_in m (drop i os)) ≡ more (set off n (get_or os i 0)) (n + 1) after
  acked-yes off n e =
      ap (more off n) (acked-step ∙ ap (λ (t : Bool). cond t (get_or os i 0 ∷ after) after) (eq-eqb (m % 2) 1 e)) ∙ more-cons off n (get_or os i 0) after

  pub acked-no : (m % 2 ≡ 1 → ⊥) → acked_in m (drop i os) ≡ after
  acked-no e = acked-step ∙ ap (λ (t : Bool). cond t (get_or os i 0 ∷ after) after) (ne_eqb (m % 2) 1 e)

pub acked-end : (m : ℕ) (os : List ℕ) (i : ℕ) → length os ≤ i → acked_in m (drop i os) ≡ []
unfolding acked_in
acked-end m os i h = ap (acked_in m) (drop_of_length-le os h)

pub acked-few : (m : ℕ) (os : List ℕ) → length (acked_in m os) ≤ length os
unfolding acked_in
acked-few m [] = omega arith
acked-few m (o ∷ os) = pick (eqb (m % 2) 1) (acked-few (m / 2) os)
  where
    pick : (b : Bool) → length (acked_in (m / 2) os) ≤ length os → length (cond b (o ∷ acked_in (m / 2) os) (acked_in (m / 2) os)) ≤ length (o ∷ os)
    pick true h = omega arith
    pick false h = omega arith

-- ---- the held list

map-append : (f : Held → ℕ) (xs ys : List Held) → map f (xs ++ ys) ≡ map f xs ++ map f ys
map-append f [] ys = refl
map-append f (x ∷ xs) ys = ap (λ (l : List ℕ). f x ∷ l) (map-append f xs ys)

over-map : (f : Held → ℕ) (l : List ℕ) (n : ℕ) (xs ys : List Held) → overwrite (overwrite l n (map f xs)) (n + length xs) (map f ys) ≡ overwrite l n (map f (xs ++ ys))
over-map f l n xs ys =
    ap (λ (k : ℕ). overwrite (overwrite l n (map f xs)) (n + k) (map f ys)) (sym (length-map xs f))
    ∙ over-cat l n (map f xs) (map f ys) ∙ ap (overwrite l n) (sym (map-append f xs ys))

pub held_more : (h : AtPeer) (xs ys : List Held) → with_more_held (with_more_held h xs) ys ≡ with_more_held h (xs ++ ys)
unfolding with_more_held
held_more h xs ys =
    let e : h.n + length xs + length ys ≡ h.n + length (xs ++ ys) = omega (arith, length-append xs ys) in
    ap₂ (λ (o b : List ℕ). record { off = o; bits = b; n = h.n + length xs + length ys; rest = h.rest }) (over-map (λ (x : Held). x.off) h.off h.n xs ys) (over-map (λ (x : Held). x.bits) h.bits h.n xs ys)
    ∙ ap (λ (k : ℕ). record { off = overwrite h.off h.n (held_offs (xs ++ ys)); bits = overwrite h.bits h.n (map (λ (x : Held). x.bits) (xs ++ ys)); n = k; rest = h.rest }) e

pub held-nil : (h : AtPeer) (xs : List Held) → xs ≡ [] → with_more_held h xs ≡ h
unfolding with_more_held
held-nil h xs e =
    let z : h.n + 0 ≡ h.n = omega arith in
    ap (with_more_held h) e ∙ ap₂ (λ (o b : List ℕ). record { off = o; bits = b; n = h.n + 0; rest = h.rest }) (over-nil h.off h.n) (over-nil h.bits h.n)
    ∙ ap (λ (k : ℕ). record { off = h.off; bits = h.bits; n = k; rest = h.rest }) z

pub held-count : (h : AtPeer) (xs : List Held) → (with_more_held h xs).n ≡ h.n + length xs
unfolding with_more_held
held-count h xs = refl

pub held-push : (h : AtPeer) (o b : ℕ) → record { off = set h.off h.n o; bits = set h.bits h.n b; n = h.n + 1; rest = h.rest } ≡ with_more_held h (held_of (o ∷ []) (b ∷ []))
unfolding with_more_held
held-push h o b = ap₂ (λ (x y : List ℕ). record { off = x; bits = y; n = h.n + 1; rest = h.rest }) (set-over h.off h.n o) (set-over h.bits h.n b)

module _ (m top : ℕ) (os hs : List ℕ) (i : ℕ) (h : i < length os) (k : i < length hs) where
  abbrev left : List Held
  left = missed_in (m / 2) top (drop (i + 1) os) (drop (i + 1) hs)

  abbrev this : List Held
  this = held_of (get_or os i 0 ∷ []) (get_or hs i 0 ∷ [])

  abbrev test : Bool
  test = not (eqb (m % 2) 1) && ltb (get_or hs i 0) top

  missed-step : missed_in m top (drop i os) (drop i hs) ≡ cond test (record { off = get_or os i 0; bits = get_or hs i 0 } ∷ left) left
  unfolding missed_in
  missed-step = ap₂ (missed_in m top) (step os i h) (step hs i k)

  pub missed-yes : (s q : AtPeer) → test ≡ true → q ≡ with_more_held s this → with_more_held s (missed_in m top (drop i os) (drop i hs)) ≡ with_more_held q left
  missed-yes s q e p =
      ap (with_more_held s) (missed-step ∙ ap (λ (t : Bool). cond t (record { off = get_or os i 0; bits = get_or hs i 0 } ∷ left) left) e)
      ∙ sym (ap (λ (x : AtPeer). with_more_held x left) p ∙ held_more s this left)

  pub missed-no : test ≡ false → missed_in m top (drop i os) (drop i hs) ≡ left
  missed-no e = missed-step ∙ ap (λ (t : Bool). cond t (record { off = get_or os i 0; bits = get_or hs i 0 } ∷ left) left) e

pub missed-end : (m top : ℕ) (os hs : List ℕ) (i : ℕ) → length os ≤ i → missed_in m top (drop i os) (drop i hs) ≡ []
unfolding missed_in
missed-end m top os hs i h = ap (λ (l : List ℕ). missed_in m top l (drop i hs)) (drop_of_length-le os h)

pub rest-turn : (os bs : List ℕ) (i : ℕ) (s q : AtPeer) → i < length os → i < length bs → q ≡ with_more_held s (held_of (get_or os i 0 ∷ []) (get_or bs i 0 ∷ []))
    → with_more_held s (drop i (held_of os bs)) ≡ with_more_held q (drop (i + 1) (held_of os bs))
rest-turn os bs i s q h k p =
    let left = held_of (drop (i + 1) os) (drop (i + 1) bs) in
    ap (with_more_held s) (sym (held-drop i os bs) ∙ ap₂ held_of (step os i h) (step bs i k))
    ∙ sym (ap₂ with_more_held p (sym (held-drop (i + 1) os bs)) ∙ held_more s (held_of (get_or os i 0 ∷ []) (get_or bs i 0 ∷ [])) left)

pub rest_end : (os bs : List ℕ) (i : ℕ) → length os ≤ i → drop i (held_of os bs) ≡ []
rest_end os bs i h = sym (held-drop i os bs) ∙ ap (λ (l : List ℕ). held_of l (drop i bs)) (drop_of_length-le os h)

pub new_none : (m top : ℕ) (keep : Bool) (h : AtPeer) (s : LastBurst) → keep ≡ false → held_none h ≡ new_held m top keep h s
unfolding new_held
new_none m top keep h s e = rw e refl

pub new-some : (m top : ℕ) (keep : Bool) (h : AtPeer) (s : LastBurst) (k q : AtPeer) → keep ≡ true → k ≡ with_more_held (held_none h) (rest_in h)
    → q ≡ with_more_held k (missed_in m top (take s.n s.off) (take s.n s.held)) → q ≡ new_held m top keep h s
unfolding new_held
new-some m top keep h s k q e p t = rw e (t ∙ ap (λ (x : AtPeer). with_more_held x (missed_in m top (take s.n s.off) (take s.n s.held))) p)

-- ---- put together

pub offsets-list : (xs : List ℕ) (r : Offsets) → length xs ≤ max_slots → r ≡ offsets_of xs → take r.n r.off ≡ xs
unfolding offsets_of
offsets-list xs r h e =
    ap (λ (o : Offsets). take o.n o.off) e ∙ part-inside (replicate max_slots 0) 0 xs 0 (length xs) (omega arith) (omega (arith, length-replicate {A = ℕ} max_slots 0))
    ∙ take-length xs

pub offsets-fit : (xs : List ℕ) (r : Offsets) → length xs ≤ max_slots → r ≡ offsets_of xs → r.n ≤ length r.off
unfolding offsets_of
offsets-fit xs r h e =
    let n : r.n ≡ length xs = ap (λ (o : Offsets). o.n) e in
    let l : length r.off ≡ length (overwrite (replicate max_slots 0) 0 xs) = ap (λ (o : Offsets). length o.off) e in
    omega (arith, length_over (replicate max_slots 0) 0 xs, length-replicate {A = ℕ} max_slots 0)

module _ (m top : ℕ) (keep : Bool) (s : Sender) (a : List ℕ) where
  abbrev settled_to : Kept × List ℕ → AtPeer → Sender × List ℕ
  settled_to x h =
      let q = with_counts (with_link s (unawaited s.link)) (with_flight s.counts x.0) in
      (with_last_burst (with_at_peer q h) (without_frames s.last_burst), x.1)

  pub settled_is : (gone b : List ℕ) (k : Kept) (h : AtPeer) → gone ≡ acked_in m (take s.last_burst.n s.last_burst.off)
      → (k, b) ≡ removed_pieces gone s.counts.pieces (s.counts.flying + s.counts.waiting) a → h ≡ new_held m top keep s.at_peer s.last_burst
      → settled_to (k, b) h ≡ settled m top keep s a
  unfolding settled
  settled_is gone b k h e r n = ap₂ settled_to (r ∙ ap (λ (g : List ℕ). removed_pieces g s.counts.pieces (s.counts.flying + s.counts.waiting) a) e) n
