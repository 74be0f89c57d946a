-- Laws of the text in a buffer: text after text is one text; a turn and the end of a loop that puts a text for each entry of a list;
-- and what `appended` is where there is room.
-- Assumes nothing.
use mathlib.Core.Path.{◌≡◌, refl, sym, ap, ap₂, ◌∙◌}
use mathlib.Core.List.{List, [], ◌∷◌, ◌++◌}
use Prim.Native.Nat.{ℕ, ◌+◌, ◌≤◌, ◌<◌}
use native.Mathlib.Omega.{arith}
use native.Mathlib.Numerals.{add-one}
use lib.ListN.{length, get_or, set, drop, length-set, drop_of_length-le}
use lib.Seq.{drop-cons}
use borrow.Author.Tests.{lt-ltb}
use Rattle.laws.specs.Bytes.{overwrite}
use Rattle.laws.proofs.Bytes.{over-nil, over-cat, set-over}
use Rattle.std.specs.Prelude.{Bool, true, false, Option}
use Rattle.std.specs.Bool.{then_some}
use Rattle.text.specs.Buffer.{put, appended, each}
use Rattle.text.specs.Words.{maybe, maybe_word}

-- ---- text after text

-- what is put after `a` in the buffer that `a` was put into
pub appended-cat : (b : ℕ × List ℕ) (a s : List ℕ) → appended b (a ++ s) ≡ appended (appended b a) s
unfolding appended
appended-cat b [] s = refl
appended-cat b (c ∷ a) s = appended-cat (put b c) a s

-- b₁ is b with s put behind what is used
pub record Added (b : ℕ × List ℕ) (s : List ℕ) (b₁ : ℕ × List ℕ) : Type 0 where
  pub is : b₁ ≡ appended b s

-- what a call ensures
pub appends : {b : ℕ × List ℕ} {s : List ℕ} {b₁ : ℕ × List ℕ} → b₁ ≡ appended b s → Added b s b₁
appends e = record { is = e }

pub by_one : {b : ℕ × List ℕ} {c : ℕ} {b₁ : ℕ × List ℕ} → b₁ ≡ put b c → Added b (c ∷ []) b₁
unfolding appended
by_one e = record { is = e }

infixl 20 ◌⨾◌
-- two calls, one after the other
pub ◌⨾◌ : {b b₁ b₂ : ℕ × List ℕ} {a s : List ℕ} → Added b a b₁ → Added b₁ s b₂ → Added b (a ++ s) b₂
◌⨾◌ {b} {b₁} {b₂} {a} {s} e f = record { is = f.is ∙ ap (λ (x : ℕ × List ℕ). appended x s) e.is ∙ sym (appended-cat b a s) }

-- the same text by another name
pub told : {b b₁ : ℕ × List ℕ} {s u : List ℕ} → Added b s b₁ → s ≡ u → b₁ ≡ appended b u
told {b} e p = e.is ∙ ap (appended b) p

-- a value's word, or "none", where the value is there if a test passes
pub may : {A : Type 0} (word : A → List ℕ) (set : Bool) (x : A) {o : Option A} {b b₁ : ℕ × List ℕ}
    → b₁ ≡ appended b (maybe_word word o) → o ≡ then_some set x → Added b (maybe set (word x)) b₁
may word true x {o} {b} p e = record { is = p ∙ ap (λ (v : Option _). appended b (maybe_word word v)) e }
may word false x {o} {b} p e = record { is = p ∙ ap (λ (v : Option _). appended b (maybe_word word v)) e }

-- nothing is put
pub nothing : (b : ℕ × List ℕ) → Added b [] b
unfolding appended
nothing b = record { is = refl }

-- ---- loops: what is left to put

-- b, with s put behind what is used, is w
pub record Left (w : ℕ × List ℕ) (s : List ℕ) (b : ℕ × List ℕ) : Type 0 where
  pub is : w ≡ appended b s

-- at the start
pub whole : (b : ℕ × List ℕ) (s : List ℕ) → Left (appended b s) s b
whole b s = record { is = refl }

-- the same by another name
pub start : (b : ℕ × List ℕ) {s u : List ℕ} → u ≡ s → Left (appended b u) s b
start b e = record { is = ap (appended b) e }

-- at the end
pub over : {w b : ℕ × List ℕ} → Left w [] b → b ≡ w
unfolding appended
over f = sym f.is

-- over a slice
pub slice-turn : {w b b₁ : ℕ × List ℕ} (s : List ℕ) (i : ℕ) → i < length s → Left w (drop i s) b
    → Added b (get_or s i 0 ∷ []) b₁ → Left w (drop (i + 1) s) b₁
slice-turn {w} {b} {b₁} s i h f e =
    record {
      is =
          f.is ∙ ap (appended b) (drop-cons s i 0 h ∙ ap (λ (k : ℕ). (get_or s i 0 ∷ []) ++ drop k s) (sym (add-one i)))
          ∙ appended-cat b (get_or s i 0 ∷ []) (drop (i + 1) s) ∙ ap (λ (x : ℕ × List ℕ). appended x (drop (i + 1) s)) (sym e.is);
    }

pub slice-end : {w b : ℕ × List ℕ} (s : List ℕ) (i : ℕ) → length s ≤ i → Left w (drop i s) b → b ≡ w
slice-end s i h f = over (record { is = f.is ∙ ap (appended _) (drop_of_length-le s h) })

-- over a list
module _ {A : Type 0} (f : A → List ℕ) where
  pub each_turn : {w b b₁ : ℕ × List ℕ} {x : A} {xs ys : List A} → xs ≡ x ∷ ys → Left w (each f xs) b
      → Added b (f x) b₁ → Left w (each f ys) b₁
  unfolding each
  each_turn {w} {b} {b₁} {x} {xs} {ys} p q e =
      record {
        is =
            q.is ∙ ap (λ (zs : List A). appended b (each f zs)) p ∙ appended-cat b (f x) (each f ys)
            ∙ ap (λ (v : ℕ × List ℕ). appended v (each f ys)) (sym e.is);
      }

  pub each-end : {w b : ℕ × List ℕ} {xs : List A} → xs ≡ [] → Left w (each f xs) b → b ≡ w
  unfolding each
  each-end {w} {b} {xs} p q = over (record { is = q.is ∙ ap (λ (zs : List A). appended b (each f zs)) p })

-- ---- the buffer keeps its length; where there is room the text stands in it at n, and nothing else has changed

pub length-appended : (b : ℕ × List ℕ) (s : List ℕ) → length (appended b s).1 ≡ length b.1
unfolding appended
length-appended b [] = refl
length-appended b (c ∷ s) = length-appended (put b c) s ∙ length-set b.1 b.0 c

pub with-room : (n : ℕ) (t s : List ℕ) → n + length s ≤ length t → appended (n, t) s ≡ (n + length s, overwrite t n s)
unfolding appended
with-room n t [] h = ap₂ (λ (k : ℕ) (l : List ℕ). (k, l)) (omega arith) (sym (over-nil t n))
with-room n t (c ∷ s) h =
    let l = length-set t n c in
    let p : n + 1 + length s ≡ n + length (c ∷ s) = omega arith in
    ap (λ (k : ℕ). appended (k, set t n c) s) (rw (lt-ltb n (length t) (omega arith)))
    ∙ with-room (n + 1) (set t n c) s (omega arith)
    ∙ ap₂ (λ (k : ℕ) (x : List ℕ). (k, overwrite x (n + 1) s)) p (set-over t n c)
    ∙ ap (λ (x : List ℕ). (n + length (c ∷ s), x)) (over-cat t n (c ∷ []) s)
