-- A turn and the end of a loop over lists side by side. Assumes nothing.
use mathlib.Core.Path.{◌≡◌, refl, sym, ap, ap₂, ◌∙◌}
use mathlib.Core.List.{List, [], ◌∷◌}
use Prim.Native.Nat.{ℕ, zero, suc, ◌+◌, ◌≤◌, ◌<◌, min}
use native.Mathlib.Omega.{arith}
use native.Mathlib.Numerals.{add-one}
use lib.ListN.{length, get_or, take, drop, length-take, drop_of_length-le}
use lib.Seq.{get_or-take}
use Rattle.ledger.specs.Ledger.{Held, Sent}
use Rattle.pieces.specs.Lists.{held_of, sent_of}

-- ---- offsets and bits

held_at : (os bs : List ℕ) (i : ℕ) → i < length os → i < length bs → drop i (held_of os bs)
    ≡ record { off = get_or os i 0; bits = get_or bs i 0 } ∷ drop (suc i) (held_of os bs)
held_at [] bs i h k = absurd (omega arith)
held_at (o ∷ os) [] i h k = absurd (omega arith)
held_at (o ∷ os) (b ∷ bs) zero h k = refl
held_at (o ∷ os) (b ∷ bs) (suc i) h k = held_at os bs i (omega arith) (omega arith)

held-few : (os bs : List ℕ) → (length (held_of os bs) ≤ length os) × (length (held_of os bs) ≤ length bs)
held-few [] bs = (omega arith, omega arith)
held-few (o ∷ os) [] = (omega arith, omega arith)
held-few (o ∷ os) (b ∷ bs) = let f = held-few os bs in (omega arith, omega arith)

-- ---- offsets, bits and held bits

sent-at : (os bs hs : List ℕ) (i : ℕ) → i < length os → i < length bs → i < length hs
    → drop i (sent_of os bs hs) ≡ record { off = get_or os i 0; bits = get_or bs i 0; held = get_or hs i 0 } ∷ drop (suc i) (sent_of os bs hs)
sent-at [] bs hs i h k l = absurd (omega arith)
sent-at (o ∷ os) [] hs i h k l = absurd (omega arith)
sent-at (o ∷ os) (b ∷ bs) [] i h k l = absurd (omega arith)
sent-at (o ∷ os) (b ∷ bs) (x ∷ hs) zero h k l = refl
sent-at (o ∷ os) (b ∷ bs) (x ∷ hs) (suc i) h k l = sent-at os bs hs i (omega arith) (omega arith) (omega arith)

sent-few : (os bs hs : List ℕ) → (length (sent_of os bs hs) ≤ length os) × (length (sent_of os bs hs) ≤ length bs) ×
    (length (sent_of os bs hs) ≤ length hs)
sent-few [] bs hs = (omega arith, omega arith, omega arith)
sent-few (o ∷ os) [] hs = (omega arith, omega arith, omega arith)
sent-few (o ∷ os) (b ∷ bs) [] = (omega arith, omega arith, omega arith)
sent-few (o ∷ os) (b ∷ bs) (x ∷ hs) = let f = sent-few os bs hs in (omega arith, omega arith, omega arith)

-- ---- the first `to` of them, from i on

module _ (os bs : List ℕ) (to i : ℕ) where
  abbrev held : List Held
  held = held_of (take to os) (take to bs)

  pub held_more : i < to → i < length os → i < length bs → drop i held ≡ record { off = get_or os i 0; bits = get_or bs i 0 }
      ∷ drop (i + 1) held
  held_more h k l =
      held_at (take to os) (take to bs) i (simp length-take (omega arith)) (simp length-take (omega arith))
      ∙ ap₂ (λ (o b : ℕ). record { off = o; bits = b } ∷ drop (suc i) held) (get_or-take to os i 0 h) (get_or-take to bs i 0 h)
      ∙ ap (λ (j : ℕ). record { off = get_or os i 0; bits = get_or bs i 0 } ∷ drop j held) (sym (add-one i))

  pub held-over : min (min to (length os)) (length bs) ≤ i → drop i held ≡ []
  held-over h = drop_of_length-le held {i = i} (omega (arith, held-few (take to os) (take to bs), length-take to os, length-take to bs))

module _ (os bs hs : List ℕ) (to i : ℕ) where
  abbrev sent : List Sent
  sent = sent_of (take to os) (take to bs) (take to hs)

  pub sent-more : i < to → i < length os → i < length bs → i < length hs
      → drop i sent ≡ record { off = get_or os i 0; bits = get_or bs i 0; held = get_or hs i 0 } ∷ drop (i + 1) sent
  sent-more h k l m =
      sent-at (take to os) (take to bs) (take to hs) i (simp length-take (omega arith)) (simp length-take (omega arith))
      (simp length-take (omega arith))
      ∙ ap₂ (λ (o b : ℕ). record { off = o; bits = b; held = get_or (take to hs) i 0 } ∷ drop (suc i) sent) (get_or-take to os i 0 h)
      (get_or-take to bs i 0 h)
      ∙ ap₂ (λ (x j : ℕ). record { off = get_or os i 0; bits = get_or bs i 0; held = x } ∷ drop j sent) (get_or-take to hs i 0 h)
      (sym (add-one i))

  pub sent-over : min (min (min to (length os)) (length bs)) (length hs) ≤ i → drop i sent ≡ []
  sent-over h =
      drop_of_length-le sent {i = i}
      (omega (arith, sent-few (take to os) (take to bs) (take to hs), length-take to os, length-take to bs, length-take to hs))
