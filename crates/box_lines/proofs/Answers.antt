-- A reception's answer, by its refusal. Assumes nothing.
use mathlib.Core.Path.{◌≡◌, refl}
use mathlib.Core.List.{List, ◌++◌}
use Prim.Native.Nat.{ℕ}
use borrow.Author.Tests.{eq-eqb, ne_eqb}
use Rattle.laws.proofs.Picks.{cond_yes, cond_no}
use Rattle.laws.specs.Text.{text}
use Rattle.text.specs.Words.{number_word, hex}
use Rattle.transcript.specs.Answers.{answer_line}
use Rattle.receiver.specs.declared.Received.{Received}
use Rattle.box_lines.specs.BoxLines.{received_line}

module _ (name : List ℕ) (q : Received) (handed : List ℕ) where
  pub line_refused : (q.refusal ≡ 0 → ⊥) → answer_line name q.refusal ≡ received_line name q handed
  unfolding received_line
  line_refused h = cond_no _ _ _ _ (ne_eqb q.refusal 0 h) refl

  pub line-accepted : q.refusal ≡ 0
      → name ++ text " ok" ++ hex q.payload ++ number_word q.wrong ++ number_word q.beyond ++ hex handed ++ text "\n" ≡ received_line name q handed
  unfolding received_line
  line-accepted e = cond_yes _ _ _ _ (eq-eqb q.refusal 0 e) refl
