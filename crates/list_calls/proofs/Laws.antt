-- What a line said, by its call and its text, with what stays as it is. Assumes nothing.
use mathlib.Core.Path.{◌≡◌, ap, ◌∙◌}
use mathlib.Core.Bool.{Bool, true}
use mathlib.Core.List.{List}
use Prim.Native.Nat.{ℕ}
use Rattle.sender.specs.declared.Left.{Left}
use Rattle.sender.specs.declared.LeftBurst.{LeftBurst}
use Rattle.queuing.specs.declared.Station.{Station}
use Rattle.text.specs.Buffer.{appended}
use Rattle.words.specs.declared.Read.{Read}
use Rattle.list_calls.specs.declared.answers.Said.{Said}
use Rattle.list_calls.specs.declared.answers.Wrote.{Wrote}
use Rattle.list_calls.specs.Answers.{said, told, burst_text, sent, answered, replied, keeping, keeping_all}

pub told_of : {ok : Bool} {s : Station} {k : ℕ} {t₁ : List ℕ} {t : ℕ × List ℕ} → (k, t₁) ≡ t → (said ok s k, t₁) ≡ told ok s t
told_of {ok} {s} e = ap (told ok s) e

abbrev wrote : Bool → ℕ × List ℕ → Wrote × List ℕ
wrote ok t = (record { ok = ok; text = t.0 }, t.1)

pub wrote_of : {ok : Bool} {k : ℕ} {t₁ : List ℕ} {t : ℕ × List ℕ} → (k, t₁) ≡ t → wrote ok (k, t₁) ≡ wrote ok t
wrote_of {ok} e = ap (wrote ok) e

pub burst-left : {q : Said} {b : LeftBurst} {a out t₁ : List ℕ} {m : LeftBurst × (List ℕ × List ℕ)} (size : ℕ) (t : ℕ × List ℕ)
    → (q, t₁) ≡ told true b.next (appended t (burst_text b.burst size out)) → (b, (a, out)) ≡ m → (q, (a, (out, t₁))) ≡ sent size t m
burst-left {q} {b} {a} {out} size t e f = ap (λ (u : Said × List ℕ). (u.0, (a, (out, u.1)))) e ∙ ap (sent size t) f

pub ask-said : {q : Said} {left : Left} {a t₁ : List ℕ} {m : Left × List ℕ} (chars : List ℕ) (r : Read) (ok : Bool) (t : ℕ × List ℕ)
    → (q, t₁) ≡ told ok left.next (answered ok left.refusal chars r t) → (left, a) ≡ m → (q, (a, t₁)) ≡ replied chars r ok t m
ask-said {q} {left} {a} chars r ok t e f = ap (λ (u : Said × List ℕ). (u.0, (a, u.1))) e ∙ ap (replied chars r ok t) f

pub kept-all : {q : Wrote} {s : Station} {a out t₁ : List ℕ} {m : Wrote × List ℕ}
    → (q, t₁) ≡ m → (said q.ok s q.text, (a, (out, t₁))) ≡ keeping_all s a out m
kept-all {s = s} {a = a} {out = out} e = ap (keeping_all s a out) e

pub kept : {q : Said} {a out t₁ : List ℕ} {m : Said × (List ℕ × List ℕ)} → (q, (a, t₁)) ≡ m → (q, (a, (out, t₁))) ≡ keeping out m
kept {out = out} e = ap (keeping out) e
