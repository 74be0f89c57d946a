-- A turn of each of the loops over a window. Assumes nothing.
use Prim.Native.Nat.{ℕ, zero, suc, ◌+◌, ◌-◌, ◌≤◌, ◌<◌}
use mathlib.Core.Path.{◌≡◌, refl, sym, ap, ap₂, ◌∙◌}
use mathlib.Core.Bool.{Bool, true, false, cond}
use mathlib.Core.List.{List, [], ◌∷◌, ◌++◌, map, append-nil}
use native.Mathlib.Numerals.{add-one}
use native.Mathlib.Omega.{arith}
use lib.ListN.{length, take, drop, get_or, set, replicate, length-append, length-drop, length-take, length-replicate, length-map, drop_of_length-le, get_or-map}
use lib.Seq.{drop-cons, take_all, paste}
use borrow.Rule.Slice.PartMut.{put_mid}
use Rattle.laws.specs.Bytes.{overwrite}
use Rattle.laws.proofs.Bytes.{over-cat, over-eq, over-take}
use Rattle.laws.proofs.Lists.{map-take}
use Rattle.window.specs.Window.{is_kept, kept_byte, keep_at, keep_from, lead, handed, moved}
use Rattle.window.proofs.Fits.{drop-lead}

from_zero : (n : ℕ) → n ≡ 0 + n
from_zero n = omega arith

-- ---- keep: the byte at place e, then the others

pub keep-stays : (e b : ℕ) (bs w : List ℕ) → is_kept (get_or w e 0) ≡ true → keep_at e (b ∷ bs) w ≡ keep_at (suc e) bs w
unfolding keep_at
keep-stays e b bs [] k = refl
keep-stays zero b bs (v ∷ w) k = ap (λ (x : ℕ). x ∷ keep_at zero bs w) (ap (λ (t : Bool). cond t v (256 + b)) k)
keep-stays (suc e) b bs (v ∷ w) k = ap (λ (x : List ℕ). v ∷ x) (keep-stays e b bs w k)

pub keep-puts : (e b : ℕ) (bs w : List ℕ) → is_kept (get_or w e 0) ≡ false → keep_at e (b ∷ bs) w ≡ keep_at (suc e) bs (set w e (256 + b))
unfolding keep_at
keep-puts e b bs [] k = refl
keep-puts zero b bs (v ∷ w) k = ap (λ (x : ℕ). x ∷ keep_at zero bs w) (ap (λ (t : Bool). cond t v (256 + b)) k)
keep-puts (suc e) b bs (v ∷ w) k = ap (λ (x : List ℕ). v ∷ x) (keep-puts e b bs w k)

pub keep-none : (e : ℕ) (w : List ℕ) → keep_at e [] w ≡ w
unfolding keep_at
keep-none e [] = refl
keep-none zero (v ∷ w) = refl
keep-none (suc e) (v ∷ w) = ap (λ (x : List ℕ). v ∷ x) (keep-none e w)

module _ (d : ℕ) (bs w : List ℕ) (z : List ℕ) (j : ℕ) (h : j < length bs) (e : keep_at (d + j) (drop j bs) w ≡ z) where
  head : keep_at (d + j) (get_or bs j 0 ∷ drop (j + 1) bs) w ≡ z
  head = ap (λ (x : List ℕ). keep_at (d + j) x w) (sym (drop-cons bs j 0 h ∙ ap (λ (k : ℕ). get_or bs j 0 ∷ drop k bs) (sym (add-one j)))) ∙ e

  next : suc (d + j) ≡ d + (j + 1)
  next = omega arith

  pub turn-stays : is_kept (get_or w (d + j) 0) ≡ true → keep_at (d + (j + 1)) (drop (j + 1) bs) w ≡ z
  turn-stays k = ap (λ (x : ℕ). keep_at x (drop (j + 1) bs) w) (sym next) ∙ sym (keep-stays (d + j) (get_or bs j 0) (drop (j + 1) bs) w k) ∙ head

  pub turn-puts : is_kept (get_or w (d + j) 0) ≡ false → keep_at (d + (j + 1)) (drop (j + 1) bs) (set w (d + j) (256 + get_or bs j 0)) ≡ z
  turn-puts k =
      ap (λ (x : ℕ). keep_at x (drop (j + 1) bs) (set w (d + j) (256 + get_or bs j 0))) (sym next) ∙ sym (keep-puts (d + j) (get_or bs j 0) (drop (j + 1) bs) w k) ∙ head

pub turn_last : (d : ℕ) (bs w z : List ℕ) (j : ℕ) → length bs ≤ j → keep_at (d + j) (drop j bs) w ≡ z → w ≡ z
turn_last d bs w z j h e = sym (keep-none (d + j) w) ∙ ap (λ (x : List ℕ). keep_at (d + j) x w) (sym (drop_of_length-le bs h)) ∙ e

-- ---- keep_from

module _ (first off : ℕ) (bs w : List ℕ) where
  pub from-late : (w1 : List ℕ) → off < first → w1 ≡ keep_at 0 (take (length bs - (first - off)) (drop (first - off) bs)) w → w1 ≡ keep_from first off bs w
  from-late w1 h e =
      let z : 0 ≡ off - first = omega (arith, h) in
      e ∙ ap₂ (λ (d : ℕ) (x : List ℕ). keep_at d x w) z (take_all (length bs - (first - off)) (drop (first - off) bs) (omega (arith, length-drop (first - off) bs)))

  pub from-gone : length bs ≤ first - off → w ≡ keep_from first off bs w
  from-gone h = sym (keep-none (off - first) w) ∙ ap (λ (x : List ℕ). keep_at (off - first) x w) (sym (drop_of_length-le bs h))

  pub from_on : (w1 : List ℕ) → first ≤ off → w1 ≡ keep_at (off - first) bs w → w1 ≡ keep_from first off bs w
  from_on w1 h e =
      let z : 0 ≡ first - off = omega (arith, h) in
      e ∙ ap (λ (k : ℕ). keep_at (off - first) (drop k bs) w) z

-- ---- copy_out: the places passed are all kept

pub lead-more : (w : List ℕ) (n : ℕ) → n < length w → is_kept (get_or w n 0) ≡ true → lead (drop n w) ≡ lead (drop (n + 1) w) + 1
unfolding lead
lead-more w n h k =
    ap lead (drop-cons w n 0 h ∙ ap (λ (x : ℕ). get_or w n 0 ∷ drop x w) (sym (add-one n)))
    ∙ ap (λ (b : Bool). cond b (suc (lead (drop (n + 1) w))) 0) k ∙ sym (add-one (lead (drop (n + 1) w)))

pub lead-stop : (w : List ℕ) (n : ℕ) → n < length w → is_kept (get_or w n 0) ≡ false → lead (drop n w) ≡ 0
unfolding lead
lead-stop w n h k = ap lead (drop-cons w n 0 h) ∙ ap (λ (b : Bool). cond b (suc (lead (drop (suc n) w))) 0) k

pub lead-end : (w : List ℕ) (n : ℕ) → length w ≤ n → lead (drop n w) ≡ 0
unfolding lead
lead-end w n h = ap lead (drop_of_length-le w h)

pub copy_more : (w out : List ℕ) (n : ℕ) → n < length w
    → set (overwrite out 0 (take n (map kept_byte w))) n (kept_byte (get_or w n 0)) ≡ overwrite out 0 (take (n + 1) (map kept_byte w))
copy_more w out n h =
    ap₂ (λ (i v : ℕ). set (overwrite out 0 (take n (map kept_byte w))) i v) (from_zero n) (sym (get_or-map kept_byte w n 0))
    ∙ over-take out 0 (map kept_byte w) n (omega (arith, length-map w kept_byte))

pub copied : (w out : List ℕ) (n : ℕ) → n ≡ lead w → overwrite out 0 (take n (map kept_byte w)) ≡ overwrite out 0 (handed w)
copied w out n e = ap (overwrite out 0) (sym (map-take kept_byte n w) ∙ ap (λ (k : ℕ). map kept_byte (take k w)) e)

-- ---- move_on

pub over-whole : (l bs : List ℕ) → length bs ≡ length l → overwrite l 0 bs ≡ bs
over-whole l bs e =
    let h : length l ≤ 0 + length bs = omega (arith, e) in
    over-eq l 0 bs (omega (arith, e)) ∙ ap (λ (x : List ℕ). bs ++ x) (drop_of_length-le l h) ∙ append-nil bs

pub slide-all : (w : List ℕ) (n : ℕ) → n ≤ length w → paste w 0 (drop n w) (length w - n) ≡ overwrite w 0 (drop n w)
slide-all w n h =
    let size : length w - n ≡ length (drop n w) = omega (arith, length-drop n w) in
    let fits : 0 + length (drop n w) ≤ length w = omega (arith, length-drop n w) in
    ap₂ (λ (x : List ℕ) (k : ℕ). x ++ drop (0 + k) w) (take_all (length w - n) (drop n w) (omega (arith, size))) size
    ∙ sym (over-eq w 0 (drop n w) fits)

pub clear-all : (w f : List ℕ) (n m : ℕ) → n ≤ length w → m ≡ length w - n
    → f ≡ replicate (length (take (length w - m) (drop m w))) 0 → put_mid m (length w - m) w f ≡ overwrite w m (replicate n 0)
clear-all w f n m h e z =
    let size : length (take (length w - m) (drop m w)) ≡ n = omega (arith, length-take (length w - m) (drop m w), length-drop m w) in
    let fits : m + length (replicate {A = ℕ} n 0) ≤ length w = omega (arith, length-replicate {A = ℕ} n 0) in
    let after : drop (length w - m) (drop m w) ≡ [] = drop_of_length-le (drop m w) (omega (arith, length-drop m w)) in
    let end : drop (m + length (replicate {A = ℕ} n 0)) w ≡ [] = drop_of_length-le w (omega (arith, length-replicate {A = ℕ} n 0)) in
    ap₂ (λ (x y : List ℕ). take m w ++ (x ++ y)) (z ∙ ap (λ (k : ℕ). replicate k 0) size) (after ∙ sym end)
    ∙ sym (over-eq w m (replicate n 0) fits)

pub slid : (w w1 w2 : List ℕ) (n : ℕ) → n ≡ lead w → length w1 ≡ length w → w1 ≡ overwrite w 0 (drop n w) → w2 ≡ overwrite w1 (length w1 - n) (replicate n 0) → w2 ≡ moved w
slid w w1 w2 n e l e1 e2 =
    let a : length w1 - n ≡ 0 + length (drop n w) = omega (arith, length-drop n w, l) in
    let k : length (drop n w ++ replicate n 0) ≡ length w = omega (arith, length-append (drop n w) (replicate n 0), length-drop n w, length-replicate {A = ℕ} n 0, drop-lead w, e) in
    e2 ∙ ap₂ (λ (x : List ℕ) (p : ℕ). overwrite x p (replicate n 0)) e1 a ∙ over-cat w 0 (drop n w) (replicate n 0) ∙ over-whole w (drop n w ++ replicate n 0) k
    ∙ ap (λ (m : ℕ). drop m w ++ replicate m 0) e

pub stood : (w : List ℕ) → lead w ≡ 0 → w ≡ moved w
stood w e = sym (append-nil w) ∙ ap (λ (m : ℕ). drop m w ++ replicate m 0) (sym e)
