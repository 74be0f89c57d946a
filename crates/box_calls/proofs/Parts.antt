-- The start of a list, so much as there is of it; the frames of a burst, one after the other. Assumes nothing.
use mathlib.Core.Path.{◌≡◌, sym, ap, ap₂, ◌∙◌}
use mathlib.Core.Bool.{Bool}
use mathlib.Core.List.{List, ◌++◌}
use Prim.Native.Nat.{ℕ, zero, suc, ◌+◌, ◌-◌, ◌*◌, ◌≤◌, ◌<◌, min}
use native.Mathlib.Nat.{mul-le-mul}
use native.Mathlib.Omega.{arith}
use native.Mathlib.Numerals.{add-one}
use lib.Dec.{leb, ltb}
use lib.ListN.{length, take, drop, get_or, length-take, drop_of_length-le}
use lib.Seq.{length-take-le, take_all, take-take, take-add, drop-cons, drop-append_seam}
use borrow.Author.Tests.{leb-true, leb-false}
use Rattle.laws.specs.Bytes.{overwrite, part}
use Rattle.laws.proofs.Bytes.{length_part, over-cat, over-nil, part_same}
use Rattle.laws.proofs.Picks.{test, either}
use Rattle.words.specs.declared.Read.{Read}
use Rattle.words.specs.Words.{decimal_of}
use Rattle.words.specs.Lines.{read_as}
use Rattle.box_lines.specs.BoxLines.{places_from, places_line}
use Rattle.box_lines.specs.declared.PlacesLine.{PlacesLine}
use Rattle.box_calls.specs.BoxCalls.{frames_at}

-- n elements, or all of a list where it has less: k of them
module _ (l : List ℕ) (k n : ℕ) (h : k ≤ length l) (e : take k l ≡ take n l) where
  count-is : k ≡ min n (length l)
  count-is = sym (length-take-le k l h) ∙ ap (λ (m : List ℕ). length m) e ∙ length-take n l

  pub drop-as : drop k l ≡ drop n l
  drop-as =
      let z = count-is in
      test (leb n (length l))
      (λ t. let p : n ≤ length l = leb-true n (length l) t in let q : k ≡ n = omega arith in ap (λ (j : ℕ). drop j l) q)
      (λ t. let p : length l < n = leb-false n (length l) t in let q : length l ≤ k = omega arith in
      drop_of_length-le l q ∙ sym (drop_of_length-le l {i = n} (omega arith)))

pub take_min : (n m : ℕ) (l : List ℕ) → take (min n m) l ≡ take m (take n l)
take_min n m l =
    test (leb n m)
    (λ t. let p : n ≤ m = leb-true n m t in let q : min n m ≡ n = omega arith in
    ap (λ (j : ℕ). take j l) q ∙ sym (take_all m (take n l) (omega (arith, length-take n l))))
    (λ t. let p : m < n = leb-false n m t in let q : min n m ≡ m = omega arith in
    ap (λ (j : ℕ). take j l) q ∙ sym (take-take m n l (omega arith)))

pub take_least : (n : ℕ) (l : List ℕ) → take (min n (length l)) l ≡ take n l
take_least n l = take_min n (length l) l ∙ take_all (length l) (take n l) (omega (arith, length-take n l))

pub taken-few : {l : List ℕ} (n : ℕ) (m : List ℕ) → l ≡ take n m → length l ≤ n
taken-few n m e = omega (arith, ap (λ (x : List ℕ). length x) e, length-take n m)

-- the bytes from place `start` on, `size` of them as far as there are any: those from place `from` to place `to`
pub record Cut (l : List ℕ) (start size from to : ℕ) : Type 0 where
  pub begins : from ≤ length l
  pub first : take from l ≡ take start l
  pub ends : to ≤ length l
  pub last : take to l ≡ take (start + size) l

module _ {l : List ℕ} {start size from to : ℕ} (c : Cut l start size from to) where
  pub ordered : from ≤ to
  ordered = omega (arith, count-is l from start c.begins c.first, count-is l to (start + size) c.ends c.last)

  pub few : to - from ≤ size
  few = omega (arith, count-is l from start c.begins c.first, count-is l to (start + size) c.ends c.last)

  pub length-frame : length (part l from (to - from)) ≡ to - from
  length-frame = let o = ordered in length_part l from (to - from) (omega arith)

  -- both stand behind the same beginning in the same list
  pub frame_is : part l from (to - from) ≡ part l start size
  frame_is =
      let o = ordered in
      let z : from + (to - from) ≡ to = omega arith in
      let x = part l from (to - from) in
      let y = part l start size in
      let same : take from l ++ x ≡ take from l ++ y =
      sym (take-add from (to - from) l) ∙ ap (λ (j : ℕ). take j l) z ∙ c.last ∙ take-add start size l
      ∙ ap (λ (m : List ℕ). m ++ y) (sym c.first) in
      sym (drop-append_seam (take from l) x) ∙ ap (λ (m : List ℕ). drop (length (take from l)) m) same ∙ drop-append_seam (take from l) y

-- one frame more is stored; `frame` is the one at place i of `places`
pub frames-turn : (size : ℕ) (sent places bytes : List ℕ) (used i k : ℕ) (frame : List ℕ) → i < length places
    → frame ≡ part sent (get_or places i 0 * size) size → length frame ≡ k
    → overwrite bytes used (frames_at size sent (drop i places))
    ≡ overwrite (overwrite bytes used frame) (used + k) (frames_at size sent (drop (i + 1) places))
unfolding frames_at
frames-turn size sent places bytes used i k frame h e l =
    let rest = frames_at size sent (drop (i + 1) places) in
    ap (λ (m : List ℕ). overwrite bytes used (frames_at size sent m)) (drop-cons places i 0 h)
    ∙ ap₂ (λ (f : List ℕ) (n : ℕ). overwrite bytes used (f ++ frames_at size sent (drop n places))) (sym e) (sym (add-one i))
    ∙ sym (over-cat bytes used frame rest)
    ∙ ap (λ (n : ℕ). overwrite (overwrite bytes used frame) (used + n) rest) l

-- all are stored
pub frames-end : (size : ℕ) (sent places bytes : List ℕ) (used i : ℕ) → length places ≤ i
    → overwrite bytes used (frames_at size sent (drop i places)) ≡ bytes
unfolding frames_at
frames-end size sent places bytes used i h =
    ap (λ (m : List ℕ). overwrite bytes used (frames_at size sent m)) (drop_of_length-le places h) ∙ over-nil bytes used

-- where a frame starts
pub start_small : (place size : ℕ) → place < 256 → size ≤ 512 → place * size ≤ 131072
start_small place size p s =
    let q : place ≤ 256 = omega arith in
    let z : place * size ≤ 256 * 512 = mul-le-mul q s in
    omega arith

-- ---- the places that a line names

pub places-few : (room frames : ℕ) (chars : List ℕ) (r : Read) → length (places_from room frames chars r).0 ≤ room
unfolding places_from
places-few zero frames chars r = omega arith
places-few (suc room) frames chars r =
    let q : Read = read_as decimal_of chars r in
    let few = places-few room frames chars q in
    either (λ (x : List ℕ × Bool). length x.0 ≤ suc room) q.ok _ _
    (either (λ (x : List ℕ × Bool). length x.0 ≤ suc room) (ltb q.value frames) _ _ (omega arith) (omega arith)) (omega arith)

pub places_count : {q : PlacesLine} (room frames : ℕ) (chars : List ℕ) (r : Read) → q ≡ places_line room frames chars r
    → q.n ≡ length (places_from room frames chars (read_as decimal_of chars r)).0
unfolding places_line
places_count room frames chars r e = ap (λ (x : PlacesLine). x.n) e

-- `all` of them are read back from the room that they were put into
pub read_back : (room all places : List ℕ) (n k : ℕ) → length all ≤ length room → places ≡ overwrite room 0 all → n ≡ length all
    → take k places ≡ take n places → take k places ≡ all
read_back room all places n k h e l f =
    f ∙ ap₂ (λ (j : ℕ) (m : List ℕ). take j m) l e ∙ part_same room 0 all (omega arith)
