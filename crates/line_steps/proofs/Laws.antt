-- What a line leaves, by what the calls below it leave; zeros over a window. Assumes nothing.
use mathlib.Core.Path.{◌≡◌, sym, ap, ◌∙◌}
use mathlib.Core.Bool.{true, false, cond}
use mathlib.Core.List.{List}
use Prim.Native.Nat.{ℕ, ◌+◌}
use native.Mathlib.Nat.{zero-add}
use lib.Dec.{ltb}
use lib.ListN.{set, replicate}
use Rattle.laws.specs.Bytes.{overwrite}
use Rattle.laws.proofs.Bytes.{over-fill}
use Rattle.laws.proofs.Picks.{cond_yes, cond_no}
use Rattle.box_calls.specs.declared.Box.{Box}
use Rattle.box_calls.specs.declared.BoxLeft.{BoxLeft}
use Rattle.run_lines.specs.declared.Run.{Run}
use Rattle.run_lines.specs.declared.Told.{Told}
use Rattle.run_lines.specs.declared.Todo.TheVariants.{Asks}
use Rattle.run_lines.specs.RunLines.{RunLeft, looked_at, left_by, to_ask, quiet_line}
use Rattle.line_steps.specs.declared.RunAndBox.{RunAndBox}
use Rattle.line_steps.specs.LineSteps.{run_and_box, box_standing, burst_noted, box_before, reply_as_long, listened_step, BoxStepLeft}
use Rattle.line_steps.specs.LineSteps.{with_line, box_asked, box_or_not, box_step, LineLeft, line_step}

abbrev Pair : Type 0
Pair = List ℕ × List ℕ

-- one zero more
pub zeros-turn : (l : List ℕ) (i : ℕ) → set (overwrite l 0 (replicate i 0)) i 0 ≡ overwrite l 0 (replicate (i + 1) 0)
zeros-turn l i = ap (λ (k : ℕ). set (overwrite l 0 (replicate i 0)) k 0) (sym (zero-add i)) ∙ over-fill l 0 i 0

-- the box as it stands before a line
module _ (run : Run) (s : Told) (b : Box) (w out sent : List ℕ) where
  abbrev standing : Box × List ℕ → Box × Pair
  standing x = let y : Box × List ℕ = box_standing run.anew x.0 w in (y.0, (y.1, x.1))

  pub before-by : {b₁ b₂ : Box} {w₁ sent₁ : List ℕ} → (b₁, sent₁) ≡ burst_noted run s b out sent → (b₂, w₁) ≡ box_standing run.anew b₁ w
      → (b₂, (w₁, sent₁)) ≡ box_before run s b w out sent
  unfolding box_before
  before-by {sent₁ = sent₁} e f = ap (λ (y : Box × List ℕ). (y.0, (y.1, sent₁))) f ∙ ap standing e

-- a line that was asked of the box
abbrev after : Run → BoxLeft × (List ℕ × Pair) → RunAndBox × (List ℕ × Pair)
after run q = (run_and_box (left_by run q.0.ok q.0.text) q.0.next, q.1)

pub listened-by : (run : Run) {r : Run} {q : BoxLeft} {x : List ℕ × Pair} {m : BoxLeft × (List ℕ × Pair)} → (q, x) ≡ m
    → r ≡ left_by run q.ok q.text → (run_and_box r q.next, x) ≡ after run m
listened-by run {q = q} {x = x} e f = ap (λ (r : Run). (run_and_box r q.next, x)) f ∙ ap (after run) e

-- one that is the box's: the answer of `reply`, if it has one
module _ (chars : List ℕ) (run : Run) (b : Box) (w h sent t : List ℕ) where
  abbrev long : ℕ × List ℕ → BoxStepLeft
  long k = (run_and_box (to_ask run Asks k.0) b, (w, (h, (t, k.1))))

  abbrev either : ℕ × List ℕ → BoxStepLeft
  either k = cond (ltb 0 k.0) (long k) (with_line k.1 (listened_step chars run b w h sent t))

  pub long-by : (l : List ℕ) {k : ℕ} {l₁ : List ℕ} {r : Run} → (k, l₁) ≡ reply_as_long chars b l → ltb 0 k ≡ true → r ≡ to_ask run Asks k
      → (run_and_box r b, (w, (h, (t, l₁)))) ≡ box_asked chars run b w h sent t l
  unfolding box_asked
  long-by l {k} {l₁} e f g =
      cond_yes _ _ _ _ f (ap (λ (r : Run). (run_and_box r b, (w, (h, (t, l₁))))) g)
      ∙ ap either e

  pub other-by : (l : List ℕ) {k : ℕ} {l₁ w₁ h₁ t₁ : List ℕ} {q : RunAndBox} → (k, l₁) ≡ reply_as_long chars b l → ltb 0 k ≡ false
      → (q, (w₁, (h₁, t₁))) ≡ listened_step chars run b w h sent t → (q, (w₁, (h₁, (t₁, l₁)))) ≡ box_asked chars run b w h sent t l
  unfolding box_asked
  other-by l {k} {l₁} e f g = cond_no _ _ _ _ f (ap (with_line l₁) g) ∙ ap either e

-- any line, after the box as it stands before it
module _ (chars : List ℕ) (run : Run) (s : Told) (b : Box) (w h sent out t l : List ℕ) where
  abbrev answering : Box × Pair → RunAndBox × (List ℕ × (List ℕ × (List ℕ × Pair)))
  answering x =
      let q : BoxStepLeft = box_or_not chars (looked_at run s.number) x.0 x.1.0 h x.1.1 t l in (q.0, (x.1.1, q.1))

  pub boxed-by : {b₁ : Box} {w₁ sent₁ : List ℕ} {r : Run} {q : RunAndBox} {x : List ℕ × (List ℕ × Pair)}
      → (b₁, (w₁, sent₁)) ≡ box_before run s b w out sent → r ≡ looked_at run s.number → (q, x) ≡ box_or_not chars r b₁ w₁ h sent₁ t l
      → (q, (sent₁, x)) ≡ box_step chars run s b w h sent out t l
  unfolding box_step
  boxed-by {b₁} {w₁} {sent₁} e g f =
      ap (λ (y : BoxStepLeft). (y.0, (sent₁, y.1))) f
      ∙ ap (λ (r : Run). let y : BoxStepLeft = box_or_not chars r b₁ w₁ h sent₁ t l in (y.0, (sent₁, y.1))) g
      ∙ ap answering e

-- the box, then the rest
module _ (chars : List ℕ) (run : Run) (s : Told) (b : Box) (area out t v file l w h sent : List ℕ) where
  abbrev resting : RunAndBox × (List ℕ × (List ℕ × (List ℕ × Pair))) → LineLeft
  resting x =
      let y : RunLeft = quiet_line chars x.0.run s area x.1.1.1.1.0 v file x.1.1.1.1.1 in
      (run_and_box y.0 x.0.next, (y.1, (x.1.1.0, (x.1.1.1.0, x.1.0))))

  pub line-by : {x : RunAndBox} {sent₁ w₁ h₁ t₁ l₁ : List ℕ} {r : Run} {y : List ℕ × (List ℕ × (List ℕ × Pair))}
      → (x, (sent₁, (w₁, (h₁, (t₁, l₁))))) ≡ box_step chars run s b w h sent out t l → (r, y) ≡ quiet_line chars x.run s area t₁ v file l₁
      → (run_and_box r x.next, (y, (w₁, (h₁, sent₁)))) ≡ line_step chars run s b area out t v file l w h sent
  unfolding line_step
  line-by {x} {sent₁} {w₁} {h₁} e f =
      ap (λ (y : RunLeft). (run_and_box y.0 x.next, (y.1, (w₁, (h₁, sent₁))))) f
      ∙ ap resting e
