-- Laws of `Puts`: text after text is one text; the start, a turn and the end of a loop that puts a text for each entry of a list.
-- Assumes nothing.
use mathlib.Core.Path.{◌≡◌, refl, sym, ap, ◌∙◌}
use mathlib.Core.List.{List, [], ◌∷◌, ◌++◌}
use Prim.Native.Nat.{ℕ}
use Rattle.std.specs.Prelude.{Bool, true, false, Option}
use Rattle.std.specs.Bool.{then_some}
use Rattle.text.specs.Buffer.{appended, each}
use Rattle.text.specs.Words.{maybe, maybe_word}
use Rattle.text.specs.Text.{Puts}
use Rattle.text.specs.declared.Text.{Text}
use Rattle.text.proofs.Laws.{appended-cat, Left, appends, each_turn, each-end}

infixl 20 ◌⨾◌
-- two calls, one after the other
pub ◌⨾◌ : {a b d : Text} {s u : List ℕ} → Puts a s b → Puts b u d → Puts a (s ++ u) d
◌⨾◌ {a} {b} {d} {s} {u} e f =
    record {
      same_buffer = f.same_buffer ∙ e.same_buffer;
      text_put =
          f.text_put ∙ ap (λ (x : ℕ × List ℕ). appended x u) e.text_put ∙ sym (appended-cat (a.len, a.bytes.now) s u);
    }

-- the same text by another name
pub told : {a b : Text} {s u : List ℕ} → Puts a s b → s ≡ u → Puts a u b
told {a} e p = record { same_buffer = e.same_buffer; text_put = e.text_put ∙ ap (appended (a.len, a.bytes.now)) p }

-- nothing is put
pub nothing : (a : Text) → Puts a [] a
unfolding appended
nothing a = record { same_buffer = refl; text_put = refl }

-- a value's word, or "none", where the value is there if a test passes
pub may : {A : Type 0} (word : A → List ℕ) (set : Bool) (x : A) {o : Option A} {a b : Text}
    → Puts a (maybe_word word o) b → o ≡ then_some set x → Puts a (maybe set (word x)) b
may word true x e p = told e (ap (maybe_word word) p)
may word false x e p = told e (ap (maybe_word word) p)

-- ---- loops: a with w put behind it is b with s put behind it, in the same buffer
pub record Rests (a : Text) (w s : List ℕ) (b : Text) : Type 0 where
  pub same_buffer : b.bytes.ghost_name ≡ a.bytes.ghost_name
  pub left : Left (appended (a.len, a.bytes.now) w) s (b.len, b.bytes.now)

-- at the start
pub begun : (a : Text) {w s : List ℕ} → w ≡ s → Rests a w s a
begun a e = record { same_buffer = refl; left = record { is = ap (appended (a.len, a.bytes.now)) e } }

module _ {A : Type 0} (f : A → List ℕ) where
  pub turn : {a b b₁ : Text} {w : List ℕ} {x : A} {xs ys : List A} → xs ≡ x ∷ ys → Rests a w (each f xs) b
      → Puts b (f x) b₁ → Rests a w (each f ys) b₁
  turn p q e = record { same_buffer = e.same_buffer ∙ q.same_buffer; left = each_turn f p q.left (appends e.text_put) }

  pub ended : {a b : Text} {w : List ℕ} {xs : List A} → xs ≡ [] → Rests a w (each f xs) b → Puts a w b
  ended p q = record { same_buffer = q.same_buffer; text_put = each-end f p q.left }
