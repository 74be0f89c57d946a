-- Numbers written in a row: a turn of a loop that writes one, over any width and any reading as a number. Assumes nothing.
use Prim.Native.Nat.{ℕ, zero, suc, ◌+◌, ◌*◌, ◌%◌, ◌<◌}
use mathlib.Core.Bool.{Bool, true, false}
use mathlib.Core.Path.{◌≡◌, refl, sym, ap, ◌∙◌}
use mathlib.Core.List.{List, [], ◌∷◌, ◌++◌, map, append_assoc, append-nil}
use native.Mathlib.Nat.{mul-suc, mul-zero, add_comm}
use native.Mathlib.Numerals.{add-one}
use native.Mathlib.Omega.{arith}
use Rattle.std.specs.Int.{from_bool}
use lib.ListN.{length, get_or, set, take, length-append, length-map}
use lib.Seq.{take-suc, length-take-le}
use Rattle.laws.specs.Bytes.{overwrite}
use Rattle.laws.specs.Little.{le}
use Rattle.laws.proofs.Bytes.{over-cat, over-snoc, set-over}
use Rattle.laws.proofs.Lists.{map-append}
use Rattle.card.specs.Card.{packed, flag_byte}

pub length-le : (k v : ℕ) → length (le k v) ≡ k
length-le zero v = refl
length-le (suc k) v = ap suc (length-le k _)

module _ (k : ℕ) where
  pub length-packed : (xs : List ℕ) → length (packed k xs) ≡ k * length xs
  unfolding packed
  length-packed [] = sym (mul-zero k)
  length-packed (x ∷ xs) =
      length-append (le k x) (packed k xs) ∙ (λ j. length-le k x j + length-packed xs j) ∙ add_comm k (k * length xs) ∙ sym
      (mul-suc k (length xs))

  pub packed-append : (xs ys : List ℕ) → packed k (xs ++ ys) ≡ packed k xs ++ packed k ys
  unfolding packed
  packed-append [] ys = refl
  packed-append (x ∷ xs) ys = ap (λ (r : List ℕ). le k x ++ r) (packed-append xs ys) ∙ sym
      (append_assoc (le k x) (packed k xs) (packed k ys))

  pub packed-one : (v : ℕ) → packed k (v ∷ []) ≡ le k v
  unfolding packed
  packed-one v = append-nil (le k v)

pub row-long : {A : Type 0} (g : A → ℕ) (k n : ℕ) (xs : List A) → length xs ≡ n → length (packed k (map g xs)) ≡ k * n
row-long g k n xs h = length-packed k (map g xs) ∙ ap (λ (m : ℕ). k * m) (length-map xs g ∙ h)

-- a run of n after a run
pub over-next : (o : List ℕ) (at : ℕ) (xs bs : List ℕ) (n : ℕ) → length xs ≡ n → overwrite (overwrite o at xs) (at + n) bs
    ≡ overwrite o at (xs ++ bs)
over-next o at xs bs n e = ap (λ (m : ℕ). overwrite (overwrite o at xs) (at + m) bs) (sym e) ∙ over-cat o at xs bs

module _ {A : Type 0} (g : A → ℕ) (o : List ℕ) (at : ℕ) (x : List A) (l : ℕ) where
  next : (d : A) → l < length x → map g (take (l + 1) x) ≡ map g (take l x) ++ (g (get_or x l d) ∷ [])
  next d h = ap (λ (m : ℕ). map g (take m x)) (add-one l) ∙ ap (map g) (take-suc x l d h) ∙ map-append g (take l x) (get_or x l d ∷ [])

  pub put-turn : (k : ℕ) (d : A) → l < length x
      → overwrite (overwrite o at (packed k (map g (take l x)))) (at + k * l) (le k (g (get_or x l d))) ≡ overwrite o at
      (packed k (map g (take (l + 1) x)))
  put-turn k d h =
      let n : length (packed k (map g (take l x))) ≡ k * l =
      length-packed k (map g (take l x)) ∙ ap (λ (m : ℕ). k * m) (length-map (take l x) g ∙ length-take-le l x (omega arith)) in
      over-next o at (packed k (map g (take l x))) (le k (g (get_or x l d))) (k * l) n
      ∙ ap (overwrite o at) (sym (ap (packed k) (next d h) ∙ packed-append k (map g (take l x)) (g (get_or x l d) ∷ []) ∙ ap
      (λ (r : List ℕ). packed k (map g (take l x)) ++ r) (packed-one k (g (get_or x l d)))))

-- a flag is a byte
pub flag-put : (o : List ℕ) (i : ℕ) (b : Bool) → set o i (from_bool b) ≡ overwrite o i ((flag_byte b % 256) ∷ [])
flag-put o i true = set-over o i 1
flag-put o i false = set-over o i 0

pub packed-flags : (bs : List Bool) → packed 1 (map flag_byte bs) ≡ map flag_byte bs
unfolding packed
packed-flags [] = refl
packed-flags (true ∷ bs) = ap (λ (r : List ℕ). 1 ∷ r) (packed-flags bs)
packed-flags (false ∷ bs) = ap (λ (r : List ℕ). 0 ∷ r) (packed-flags bs)

-- three bytes and then a run
pub small-run : (o : List ℕ) (at a b c : ℕ) (bs : List ℕ) → overwrite (set (set (set o at a) (at + 1) b) (at + 2) c) (at + 3) bs
    ≡ overwrite o at (a ∷ b ∷ c ∷ bs)
small-run o at a b c bs =
    ap (λ (q : List ℕ). overwrite q (at + 3) bs)
    (ap (λ (q : List ℕ). set (set q (at + 1) b) (at + 2) c) (set-over o at a) ∙ ap (λ (q : List ℕ). set q (at + 2) c)
    (over-snoc o at (a ∷ []) b 1 refl) ∙ over-snoc o at (a ∷ b ∷ []) c 2 refl)
    ∙ over-next o at (a ∷ b ∷ c ∷ []) bs 3 refl
