-- A turn and the end of the loop that reads places. Assumes nothing.
use Prim.Native.Nat.{ℕ, suc, ◌+◌, ◌-◌, ◌≤◌, ◌<◌}
use mathlib.Core.Path.{◌≡◌, refl, sym, ap, ap₂, ◌∙◌}
use mathlib.Core.Bool.{Bool, true, false, cond}
use mathlib.Core.List.{List, [], ◌∷◌}
use native.Mathlib.Omega.{arith}
use lib.Dec.{ltb}
use lib.ListN.{length, take, drop, get_or, set, length-drop}
use lib.Seq.{take_all, drop-drop, get_or-drop}
use borrow.Author.Tests.{lt-ltb, le-ltb}
use Rattle.laws.specs.Bytes.{overwrite}
use Rattle.laws.proofs.Bytes.{over-take}
use Rattle.words.specs.declared.Read.{Read}
use Rattle.words.specs.Words.{decimal_of}
use Rattle.words.specs.Lines.{read_as, is_done}
use Rattle.box_lines.specs.BoxLines.{places_from}

module _ (frames : ℕ) (chars : List ℕ) where
  -- what is read from r on, the next word being q
  abbrev turned : ℕ → Read → Read → List ℕ × Bool
  turned room r q =
      cond q.ok (cond (ltb q.value frames) (q.value ∷ (places_from room frames chars q).0, (places_from room frames chars q).1) ([], false)) ([], is_done chars r)

  one-read : (room : ℕ) (r q : Read) → q ≡ read_as decimal_of chars r → places_from (suc room) frames chars r ≡ turned room r q
  unfolding places_from
  one-read room r q e = ap (turned room r) (sym e)

  -- the places read so far, n of them: those of `all` behind them are to be read from r on
  pub record Reading (room : ℕ) (all : List ℕ × Bool) (r : Read) (n : ℕ) : Type 0 where
    pub few : n ≤ length all.0
    pub rest : drop n all.0 ≡ (places_from (room - n) frames chars r).0
    pub ends : all.1 ≡ (places_from (room - n) frames chars r).1

  pub begins : (room : ℕ) (r : Read) → Reading room (places_from room frames chars r) r 0
  begins room r =
      let z : room ≡ room - 0 = omega arith in
      record { few = omega arith; rest = ap (λ (m : ℕ). (places_from m frames chars r).0) z; ends = ap (λ (m : ℕ). (places_from m frames chars r).1) z }

  module _ (room : ℕ) (all : List ℕ × Bool) (r q : Read) (n : ℕ) (e : q ≡ read_as decimal_of chars r) (v : Reading room all r n) where
    here : n < room → places_from (room - n) frames chars r ≡ turned (room - (n + 1)) r q
    here h = ap (λ (m : ℕ). places_from m frames chars r) (let z : room - n ≡ suc (room - (n + 1)) = omega (arith, h) in z) ∙ one-read (room - (n + 1)) r q e

    module _ (h : n < room) (k : q.ok ≡ true) (l : q.value < frames) where
      is : places_from (room - n) frames chars r ≡ (q.value ∷ (places_from (room - (n + 1)) frames chars q).0, (places_from (room - (n + 1)) frames chars q).1)
      is = here h ∙ rw (k, lt-ltb q.value frames l) refl

      front : drop n all.0 ≡ q.value ∷ (places_from (room - (n + 1)) frames chars q).0
      front = v.rest ∙ ap (λ (x : List ℕ × Bool). x.0) is

      more : n < length all.0
      more = omega (arith, ap length front, length-drop n all.0)

      pub reads_on : Reading room all q (n + 1)
      reads_on =
          record {
            few = omega (arith, more);
            rest = sym (drop-drop 1 n all.0) ∙ ap (drop 1) front;
            ends = v.ends ∙ ap (λ (x : List ℕ × Bool). x.1) is;
          }

      pub puts-on : (places : List ℕ) → set (overwrite places 0 (take n all.0)) n q.value ≡ overwrite places 0 (take (n + 1) all.0)
      puts-on places =
          let g : get_or all.0 n 0 ≡ q.value = ap (λ (m : ℕ). get_or all.0 m 0) (let z : n ≡ n + 0 = omega arith in z) ∙ sym (get_or-drop n all.0 0 0) ∙ ap (λ (x : List ℕ). get_or x 0 0) front in
          ap₂ (λ (j x : ℕ). set (overwrite places 0 (take n all.0)) j x) (let z : n ≡ 0 + n = omega arith in z) (sym g) ∙ over-take places 0 all.0 n more

    stops : (b : Bool) → places_from (room - n) frames chars r ≡ ([], b) → (n ≡ length all.0) × (b ≡ all.1) × (take n all.0 ≡ all.0)
    stops b z =
        let len : length all.0 ≡ n = omega (arith, v.few, length-drop n all.0, ap length (v.rest ∙ ap (λ (x : List ℕ × Bool). x.0) z)) in
        (sym len, sym (v.ends ∙ ap (λ (x : List ℕ × Bool). x.1) z), take_all n all.0 (omega (arith, len)))

    pub no_word : n < room → q.ok ≡ false → (n ≡ length all.0) × (is_done chars r ≡ all.1) × (take n all.0 ≡ all.0)
    no_word h k = stops (is_done chars r) (here h ∙ rw k refl)

    pub past-frames : n < room → q.ok ≡ true → frames ≤ q.value → (n ≡ length all.0) × (false ≡ all.1) × (take n all.0 ≡ all.0)
    past-frames h k l = stops false (here h ∙ rw (k, le-ltb q.value frames l) refl)

  pub no_room : (room : ℕ) (all : List ℕ × Bool) (r : Read) (n : ℕ) → Reading room all r n → room ≤ n → (n ≡ length all.0) × (is_done chars r ≡ all.1) × (take n all.0 ≡ all.0)
  unfolding places_from
  no_room room all r n v h =
      stops room all r (read_as decimal_of chars r) n refl v (is_done chars r)
      (ap (λ (m : ℕ). places_from m frames chars r) (let z : room - n ≡ 0 = omega (arith, h) in z))
