-- What a part of a line leaves, by what the calls below it leave; bytes kept in a place and zeros. Assumes nothing.
use mathlib.Core.Path.{◌≡◌, refl, ap, ap₂, ◌∙◌}
use mathlib.Core.Bool.{Bool}
use mathlib.Core.List.{List, [], ◌∷◌}
use Prim.Native.Nat.{ℕ, ◌≤◌}
use native.Mathlib.Omega.{arith}
use lib.ListN.{length, take, length-take}
use Rattle.laws.specs.Bytes.{overwrite}
use Rattle.run_lines.specs.declared.Run.{Run}
use Rattle.run_lines.specs.declared.Told.{Told}
use Rattle.std.specs.Prelude.{Option}
use Rattle.call_lines.specs.declared.names.Call.{Call}
use Rattle.run_lines.specs.declared.Todo.TheVariants.{Anew}
use Rattle.run_lines.specs.RunLinesCode.{with_stage, with_file, with_todo, with_text}
use Rattle.run_lines.specs.RunLines.{wrote_to, ended, profile_begun, loaded, file_taken, lent}

-- what there is no room for is left out
pub over-cut : (l bs : List ℕ) → overwrite l 0 (take (length l) bs) ≡ overwrite l 0 bs
unfolding overwrite
over-cut [] bs = refl
over-cut (x ∷ l) [] = refl
over-cut (x ∷ l) (b ∷ bs) = ap (λ (r : List ℕ). b ∷ r) (over-cut l bs)

pub cut_fits : (l bs : List ℕ) → length (take (length l) bs) ≤ length l
cut_fits l bs = simp length-take (omega arith)

pub pair : {A B : Type 0} {x y : A} {z w : B} → x ≡ y → z ≡ w → ◌≡◌ {A = A × B} (x, z) (y, w)
pair e f = ap₂ (λ x z. (x, z)) e f

-- ---- a part of a line wrote its text: how much of the buffer is used then, and the buffer

-- `profile`
abbrev beginning : Run → ℕ × List ℕ → Run × List ℕ
beginning run u = (with_stage 0 (with_todo Anew (with_text u.0 run)), u.1)

pub begun-by : (run : Run) (s : Told) (t : List ℕ) {k : ℕ} {t₁ : List ℕ} → (k, t₁) ≡ ended run s t
    → beginning run (k, t₁) ≡ profile_begun run s t
unfolding profile_begun
begun-by run s t e = ap (beginning run) e

-- a file of n bytes stands for the profile
abbrev standing : ℕ → Run → List ℕ → ℕ × List ℕ → Run × (List ℕ × List ℕ)
standing n r a u = (with_file n (with_todo Anew (with_text u.0 r)), (a, u.1))

pub loaded-by : (n : ℕ) {r p : Run} {a₁ a t₁ : List ℕ} {k : ℕ} {u : ℕ × List ℕ} → r ≡ p → a₁ ≡ a → (k, t₁) ≡ u
    → standing n r a₁ (k, t₁) ≡ standing n p a u
loaded-by n {r} {p} {a₁} {a} {t₁} {k} {u} e f g = ap (standing n r a₁) g ∙ ap₂ (λ (r : Run) (a : List ℕ). standing n r a u) e f

-- a refused file
abbrev refused : Run → List ℕ → List ℕ → ℕ × List ℕ → Run × (List ℕ × (List ℕ × List ℕ))
refused run area file u = (wrote_to run u.0, (area, (u.1, file)))

pub refused-by : (run : Run) {k : ℕ} {area file t₁ : List ℕ} {u : ℕ × List ℕ} → (k, t₁) ≡ u
    → refused run area file (k, t₁) ≡ refused run area file u
refused-by run {k} {area} {file} e = ap (refused run area file) e

-- `area` and `out`
abbrev lending : Option Call → Run → ℕ → ℕ × List ℕ → Run × List ℕ
lending call run n u = (lent call (wrote_to run u.0) n, u.1)

pub lent_by : (call : Option Call) (run : Run) (n : ℕ) {k : ℕ} {t₁ : List ℕ} {u : ℕ × List ℕ} → (k, t₁) ≡ u
    → lending call run n (k, t₁) ≡ lending call run n u
lent_by call run n e = ap (lending call run n) e

-- ---- a file is taken, after the sender before it has ended

abbrev keeping : List ℕ → Run × (List ℕ × List ℕ) → Run × (List ℕ × (List ℕ × List ℕ))
keeping file q = (q.0, (q.1.0, (q.1.1, file)))

pub taken-by : {p q : Run} {a₁ t₁ t₂ f₁ : List ℕ} (run : Run) (s : Told) (b : List ℕ) (stretched : Bool) (area t file : List ℕ)
    → (p, t₁) ≡ profile_begun run s t → (q, (a₁, t₂)) ≡ loaded p (length b) stretched area t₁ → f₁ ≡ overwrite file 0 b
    → (q, (a₁, (t₂, f₁))) ≡ file_taken run s b stretched area t file
unfolding file_taken
taken-by run s b stretched area t file e f g =
    ap₂ (λ (q : Run × (List ℕ × List ℕ)) (w : List ℕ). keeping w q) f g
    ∙ ap (λ (p : Run × List ℕ). keeping (overwrite file 0 b) (loaded p.0 (length b) stretched area p.1)) e
