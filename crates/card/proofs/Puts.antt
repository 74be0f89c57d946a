-- Runs of bytes written one after the other. Assumes nothing.
use Prim.Native.Nat.{ℕ, ◌+◌, ◌*◌}
use mathlib.Core.Path.{◌≡◌, refl, sym, ap, ◌∙◌}
use mathlib.Core.List.{List, [], ◌∷◌, ◌++◌, map}
use lib.ListN.{length, set, length-append, length-map}
use Rattle.laws.specs.Bytes.{overwrite}
use Rattle.laws.specs.Little.{le}
use Rattle.laws.proofs.Bytes.{set-over}
use Rattle.laws.proofs.Lists.{map-id}
use Rattle.card.specs.Card.{packed, section}
use Rattle.card.specs.CardCode.{Puts}
use Rattle.card.proofs.Pack.{length-packed, over-next, packed-append}

module _ (o o' q : List ℕ) (i : ℕ) where
  -- a run, and a run right after it
  pub joins : (xs bs : List ℕ) (n m : ℕ) → Puts o o' i xs n → Puts o' q (i + n) bs m → Puts o q i (xs ++ bs) (n + m)
  joins xs bs n m a b = (
    b.0 ∙ ap (λ (l : List ℕ). overwrite l (i + n) bs) a.0 ∙ over-next o i xs bs n a.1,
    length-append xs bs ∙
        (λ j. a.1 j + b.1 j),
  )

  -- a section after its count
  pub counted : (bs : List ℕ) (n : ℕ) → o' ≡ overwrite o i (le 2 n) → Puts o' q (i + 2) bs n → Puts o q i (section bs) (2 + n)
  counted bs n a b =
      let e = joins (le 2 n) bs 2 n (a, refl) b in
      (e.0 ∙ ap (λ (m : ℕ). overwrite o i (le 2 m ++ bs)) (sym b.1), ap (λ (m : ℕ). length (le 2 m ++ bs)) b.1 ∙ e.1)

module _ (o q : List ℕ) (i : ℕ) where
  -- a row of n numbers of k bytes
  pub rowed : {A : Type 0} (g : A → ℕ) (k : ℕ) (x : List A) (n : ℕ) → n ≡ length x → q ≡ overwrite o i (packed k (map g x)) → Puts o q i
      (packed k (map g x)) (k * n)
  rowed g k x n h e = (e, length-packed k (map g x) ∙ ap (λ (m : ℕ). k * m) (length-map x g ∙ sym h))

  -- of numbers as they are
  pub numbered : (k : ℕ) (x : List ℕ) (n : ℕ) → n ≡ length x → q ≡ overwrite o i (packed k (map (λ (v : ℕ). v) x)) → Puts o q i (packed k x) (k * n)
  numbered k x n h e =
      (e ∙ ap (λ (l : List ℕ). overwrite o i (packed k l)) (map-id x), length-packed k x ∙ ap (λ (m : ℕ). k * m) (sym h))

-- one byte
pub one_byte : (o : List ℕ) (i v : ℕ) → Puts o (set o i v) i (v ∷ []) 1
one_byte o i v = (set-over o i v, refl)

-- two rows are one
pub merged : (o q : List ℕ) (i k : ℕ) (xs ys : List ℕ) (n : ℕ) → Puts o q i (packed k xs ++ packed k ys) n → Puts o q i
    (packed k (xs ++ ys)) n
merged o q i k xs ys n e = rw (← packed-append k xs ys) at e
