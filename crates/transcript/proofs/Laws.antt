-- An answer's outcome by its number, and a frame's bytes in the output. Assumes nothing.
use mathlib.Core.Path.{◌≡◌, refl, sym, ap, ◌∙◌}
use mathlib.Core.List.{List, [], ◌++◌}
use Prim.Native.Nat.{ℕ, ◌+◌, ◌-◌, ◌≤◌, ◌<◌, min}
use native.Mathlib.Omega.{arith}
use lib.ListN.{length, take, drop, length-drop, drop_of_length-le}
use lib.Seq.{drop-drop, take_all}
use lib.Dec.{leb}
use borrow.Author.Tests.{eq-eqb, ne_eqb, leb-true, leb-false}
use Rattle.laws.specs.Bytes.{part}
use Rattle.laws.proofs.Picks.{cond_yes, cond_no, test}
use Rattle.laws.specs.Text.{text}
use Rattle.text.specs.Words.{number_word}
use Rattle.transcript.specs.Answers.{outcome}

past : {A : Type 0} (l : List A) (i : ℕ) → length l ≤ i → drop i l ≡ []
past l i h = drop_of_length-le l h

-- ---- the outcome

pub accepted : (k : ℕ) → k ≡ 0 → text " ok" ≡ outcome k
unfolding outcome
accepted k e = cond_yes _ _ _ _ (eq-eqb k 0 e) refl

pub refused : (k : ℕ) → (k ≡ 0 → ⊥) → text " refused" ++ number_word k ≡ outcome k
unfolding outcome
refused k h = cond_no _ _ _ _ (ne_eqb k 0 h) refl

-- ---- a frame's bytes: it starts at k, or at the output's end where k lies past it, and ends with its `size` bytes or with the output

module _ (out : List ℕ) (from size k to : ℕ) (h : from ≤ length out) (e : drop from out ≡ drop k out) (p : to
    ≡ min (from + size) (length out)) where
  pub frame-bytes : take (to - from) (drop from out) ≡ part out k size
  frame-bytes =
      let d : length (drop k out) ≡ length out - from = ap length (sym e) ∙ length-drop from out in
      ap (take (to - from)) e
      ∙ test (leb (from + size) (length out))
      (λ t.
      let l : from + size ≤ length out = leb-true _ _ t in
      let q : to - from ≡ size = omega arith in
      ap (λ (m : ℕ). take m (drop k out)) q)
      (λ f.
      let l : length out < from + size = leb-false _ _ f in
      take_all (to - from) (drop k out) (omega arith) ∙ sym (take_all size (drop k out) (omega arith)))

  pub frame-next : drop to out ≡ drop (k + size) out
  frame-next =
      test (leb (from + size) (length out))
      (λ t.
      let l : from + size ≤ length out = leb-true _ _ t in
      let q : to ≡ from + size = omega arith in
      ap (λ (m : ℕ). drop m out) q)
      (λ f.
      let l : length out < from + size = leb-false _ _ f in
      past out to (omega arith) ∙ sym (past out (from + size) (omega arith)))
      ∙ sym (drop-drop size from out) ∙ ap (drop size) e ∙ drop-drop size k out
