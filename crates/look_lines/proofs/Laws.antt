-- What a line showed, by its call and its text. Assumes nothing.
use mathlib.Core.Path.{◌≡◌, ap, ap₂, ◌∙◌}
use mathlib.Core.Bool.{Bool, true}
use mathlib.Core.List.{List}
use Prim.Native.Nat.{ℕ}
use Rattle.text.specs.Buffer.{appended}
use Rattle.config.specs.declared.Profile.{Profile}
use Rattle.adif.specs.declared.Logged.{Logged}
use Rattle.look_lines.specs.declared.Shown.{Shown}
use Rattle.look_lines.specs.declared.LoadLine.{LoadLine}
use Rattle.look_lines.specs.Looks.{line_left, wrote, card_text, log_text, output_kept}

pub said : {k : ℕ} {t₁ : List ℕ} {t : ℕ × List ℕ} → (k, t₁) ≡ t → (line_left true k, t₁) ≡ wrote true t
said e = ap (λ (u : ℕ × List ℕ). wrote true u) e

-- a call left its answer and the output, of which `told` makes the text
module _ {A : Type 0} (told : A × List ℕ → List ℕ) (t : ℕ × List ℕ) where
  abbrev with : A × List ℕ → Shown × (List ℕ × List ℕ)
  with m = let u : ℕ × List ℕ = appended t (told m) in (line_left true u.0, (m.1, u.1))

  with-said : {x : A} {out t₁ : List ℕ} {k : ℕ} {m : A × List ℕ} → (x, out) ≡ m → (k, t₁) ≡ appended t (told (x, out))
      → (line_left true k, (out, t₁)) ≡ with m
  with-said {x} {out} e f = ap (λ (u : ℕ × List ℕ). (line_left true u.0, (out, u.1))) f ∙ ap (λ (m : A × List ℕ). with m) e

pub card-said : {x : ℕ} {out t₁ : List ℕ} {k : ℕ} {m : ℕ × List ℕ} (t : ℕ × List ℕ) → (x, out) ≡ m → (k, t₁) ≡ appended t (card_text x out)
    → (line_left true k, (out, t₁)) ≡ with (λ m. card_text m.0 m.1) t m
card-said t e f = with-said (λ m. card_text m.0 m.1) t e f

pub log-said : {x : Logged} {out t₁ : List ℕ} {k : ℕ} {m : Logged × List ℕ} (t : ℕ × List ℕ) → (x, out) ≡ m
    → (k, t₁) ≡ appended t (log_text x out) → (line_left true k, (out, t₁)) ≡ with (λ m. log_text m.0 m.1) t m
log-said t e f = with-said (λ m. log_text m.0 m.1) t e f

pub kept : {q : Shown} {out t₁ : List ℕ} {m : Shown × List ℕ} → (q, t₁) ≡ m → (q, (out, t₁)) ≡ output_kept out m
kept {q} {out} e = ap (λ (m : Shown × List ℕ). output_kept out m) e

-- what reading a file of so many bytes gave
abbrev line_of : Bool → ℕ → ℕ × Profile × Bool → LoadLine
line_of ok len m = record { ok = ok; len = len; refusal = m.0; stretched = m.2 }

pub loaded : {len n : ℕ} {found m : ℕ × Profile × Bool} (ok : Bool) → len ≡ n → found ≡ m → line_of ok len found ≡ line_of ok n m
loaded ok e f = ap₂ (λ (k : ℕ) (m : ℕ × Profile × Bool). line_of ok k m) e f
