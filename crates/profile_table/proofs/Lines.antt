-- A line's values, one after the other, and which line of the profile each arm of the code reads. Assumes nothing.
use Prim.Native.Nat.{ℕ, ◌+◌, ◌-◌, ◌*◌, ◌≤◌, ◌<◌}
use mathlib.Core.Path.{◌≡◌, refl, sym, ap, ◌∙◌}
use mathlib.Core.Bool.{Bool}
use mathlib.Core.List.{List}
use native.Mathlib.Omega.{arith}
use borrow.Author.Tests.{lt-ltb, le-ltb}
use lib.ListN.{length, set, get_or-eq_default}
use Rattle.laws.proofs.Picks.{cond_yes, cond_no}
use Rattle.words.specs.declared.Read.{Read}
use Rattle.laws.specs.Text.{text}
use Rattle.profile_table.specs.declared.listed.Kind.{Kind}
use Rattle.profile_table.specs.declared.listed.Kind.TheVariants.{Flag, Level}
use Rattle.words.specs.Lines.{read_as}
use Rattle.profile_table.specs.ProfileLines.{meaning_of, kind_at, Line, line_of, lines, line_at, Reading, value_read}
use Rattle.profile_table.specs.ProfileLines.{line_read, line_ok}

module _ (chars : List ℕ) (kind : Kind) (at i : ℕ) where
  -- value i is read and stored
  pub value-step : (q r : Read) (v : List ℕ) (k : Kind) → k ≡ kind_at kind i → r ≡ read_as (meaning_of k) chars q
      → ◌≡◌ {A = Reading} (r, set v (at + i) r.value) (value_read chars kind at i (q, v))
  unfolding value_read
  value-step q r v k d e = ap (λ (x : Read). (x, set v (at + i) x.value)) (e ∙ ap (λ (m : Kind). read_as (meaning_of m) chars q) d)

-- what is ensured of an arm's line is ensured of the line k
pub arm : (chars : List ℕ) (k : ℕ) (v : List ℕ) (l : Line) (r : Bool) (x : List ℕ) → l ≡ line_at k → (r ≡ line_ok chars l v) ×
    (x ≡ (line_read chars l v).1)
    → (r ≡ line_ok chars (line_at k) v) × (x ≡ (line_read chars (line_at k) v).1)
arm chars k v l r x e h = (h.0 ∙ ap (λ (y : Line). line_ok chars y v) e, h.1 ∙ ap (λ (y : Line). (line_read chars y v).1) e)

pub level-line : (k : ℕ) → k < 17 → line_of (text "level") Level 4 (4 * k) ≡ line_at k
unfolding line_at
level-line k h = cond_yes _ _ _ _ (lt-ltb k 17 h) refl

past : (k : ℕ) → 32 ≤ k → length lines ≤ k - 17
unfolding lines
past k h = omega arith

pub on_line : (k : ℕ) → 32 ≤ k → line_of (text "on") Flag 10 136 ≡ line_at k
unfolding line_at
on_line k h = cond_no _ _ _ _ (le-ltb k 17 (omega arith)) (sym (get_or-eq_default lines (line_of (text "on") Flag 10 136) (past k h)))
