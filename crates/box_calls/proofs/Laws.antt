-- What the box's lines leave, by the calls that they make. Assumes nothing.
use mathlib.Core.Path.{◌≡◌, refl, sym, ap, ap₂, ◌∙◌}
use mathlib.Core.Bool.{Bool, true, false, not, ◌&&◌, ◌||◌}
use mathlib.Core.List.{List, ◌++◌}
use Prim.Native.Nat.{ℕ, ◌+◌, ◌-◌, ◌≤◌, ◌<◌}
use native.Mathlib.Omega.{arith}
use lib.Dec.{leb, ltb}
use lib.ListN.{take}
use borrow.Author.Tests.{ltb-true, ltb-false, le-leb, lt-leb, leb-true, leb-false, not-true, not-false}
use Rattle.laws.proofs.Picks.{test}
use Rattle.text.specs.Buffer.{appended}
use Rattle.box_lines.specs.BoxLines.{received_line}
use Rattle.receiver.specs.declared.Listened.{Listened}
use Rattle.box_calls.specs.declared.Box.{Box}
use Rattle.box_calls.specs.declared.BoxLeft.{BoxLeft}
use Rattle.box_calls.specs.BoxCalls.{box_left, after_reception, window_kept}

-- ---- tests

pub room-left : (used k most : ℕ) → used ≤ most → leb k (most - used) ≡ leb (used + k) most
room-left used k most h =
    test (leb k (most - used))
    (λ e. let l : k ≤ most - used = leb-true _ _ e in e ∙ sym (le-leb (used + k) most (omega arith)))
    (λ e. let l : most - used < k = leb-false _ _ e in e ∙ sym (lt-leb (used + k) most (omega arith)))

pub too_wide : (a : Bool) (n most : ℕ) → (not a || ltb most n) ≡ true → (a && leb n most) ≡ false
too_wide true n most e = lt-leb n most (ltb-true most n e)
too_wide false n most e = refl

pub not_wide : (a : Bool) (n most : ℕ) → (not a || ltb most n) ≡ false → (a && leb n most) ≡ true
not_wide true n most e = le-leb n most (ltb-false most n e)
not_wide false n most e = sym e

-- there is room for the n-th frame and its bytes where the call says so
module _ (i most used len all : ℕ) (r : Bool) (e : r ≡ leb (used + len) all) where
  pub no_room : not (ltb i most && r) ≡ true → (ltb i most && leb (used + len) all) ≡ false
  no_room h = rw (← e) (not-true (ltb i most && r) h)

  pub room : not (ltb i most && r) ≡ false → (ltb i most && leb (used + len) all) ≡ true
  room h = rw (← e) (not-false (ltb i most && r) h)

-- ---- what a line said

abbrev Pair : Type 0
Pair = List ℕ × List ℕ

abbrev showing : Box → ℕ × List ℕ → BoxLeft × List ℕ
showing b u = (box_left true u.0 b, u.1)

pub said : {b : Box} {k : ℕ} {t₁ : List ℕ} {t : ℕ × List ℕ} → (k, t₁) ≡ t → showing b (k, t₁) ≡ showing b t
said {b} e = ap (showing b) e

abbrev hearing : Box × List ℕ → ℕ × List ℕ → BoxLeft × Pair
hearing m u = (box_left true u.0 m.0, (m.1, u.1))

pub heard-said : {next : Box} {h₁ t₁ : List ℕ} {k : ℕ} {m : Box × List ℕ} {t : ℕ × List ℕ} → (next, h₁) ≡ m → (k, t₁) ≡ t
    → hearing (next, h₁) (k, t₁) ≡ hearing m t
heard-said e f = ap₂ hearing e f

-- a reception left its answer, the window and the output
module _ (name : List ℕ) (heard : Bool) (b : Box) (t : ℕ × List ℕ) where
  abbrev words : Listened → List ℕ → List ℕ
  words q out = received_line name q.answer (take q.answer.handed out)

  abbrev taking : Listened × Pair → BoxLeft × Pair
  taking x = let u : ℕ × List ℕ = appended t (words x.0 x.1.1) in (box_left true u.0 (after_reception heard x.0 b), (x.1.0, u.1))

  pub taken-said : {q : Listened} {w₁ out₁ t₁ : List ℕ} {k : ℕ} {next : Box} {x : Listened × Pair} → (q, (w₁, out₁)) ≡ x
      → (k, t₁) ≡ appended t (words q out₁) → next ≡ after_reception heard q b → hearing (next, w₁) (k, t₁) ≡ taking x
  taken-said {q} {w₁} e f g = ap₂ (λ (n : Box) (u : ℕ × List ℕ). hearing (n, w₁) u) g f ∙ ap taking e

-- what is behind the places lent
abbrev lending : List ℕ → BoxLeft × Pair → BoxLeft × Pair
lending rest m = (m.0, (m.1.0 ++ rest, m.1.1))

pub lent-said : {q : BoxLeft} {w₁ t₁ : List ℕ} {m : BoxLeft × Pair} (rest : List ℕ) → (q, (w₁, t₁)) ≡ m
    → lending rest (q, (w₁, t₁)) ≡ lending rest m
lent-said rest e = ap (lending rest) e

-- ---- what is beside a line stays

abbrev keeps_window : List ℕ → BoxLeft × Pair → BoxLeft × (List ℕ × Pair)
keeps_window w m = (m.0, (w, m.1))

pub window-kept : {q : BoxLeft} {w h₁ t₁ : List ℕ} {m : BoxLeft × Pair} → (q, (h₁, t₁)) ≡ m → keeps_window w (q, (h₁, t₁)) ≡ keeps_window w m
window-kept {q} {w} e = ap (keeps_window w) e

pub kept : {q : BoxLeft} {w t₁ : List ℕ} {m : BoxLeft × List ℕ} → (q, t₁) ≡ m → window_kept w (q, t₁) ≡ window_kept w m
kept {q} {w} e = ap (window_kept w) e

abbrev keeps_heard : List ℕ → BoxLeft × Pair → BoxLeft × (List ℕ × Pair)
keeps_heard h m = (m.0, (m.1.0, (h, m.1.1)))

pub heard-kept : {q : BoxLeft} {w₁ h t₁ : List ℕ} {m : BoxLeft × Pair} → (q, (w₁, t₁)) ≡ m → keeps_heard h (q, (w₁, t₁)) ≡ keeps_heard h m
heard-kept {q} {w₁} {h} e = ap (keeps_heard h) e
