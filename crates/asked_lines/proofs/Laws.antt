-- What a line leaves that the run has looked at, by what the calls below it leave. Assumes nothing.
use mathlib.Core.Path.{◌≡◌, sym, ap, ap₂, ◌∙◌}
use mathlib.Core.Bool.{true, false}
use mathlib.Core.List.{List, ◌++◌}
use Prim.Native.Nat.{ℕ, ◌≤◌}
use native.Mathlib.Nat.{zero-add}
use native.Mathlib.Omega.{arith}
use lib.ListN.{length, drop}
use Rattle.laws.specs.Bytes.{overwrite}
use Rattle.laws.proofs.Bytes.{over-eq}
use Rattle.laws.proofs.Picks.{cond_yes, cond_no}
use Rattle.config.specs.declared.Profile.{Profile}
use Rattle.queuing.specs.declared.Station.{Station}
use Rattle.call_lines.specs.declared.names.Named.{Named}
use Rattle.look_lines.specs.declared.Shown.{Shown}
use Rattle.run_lines.specs.declared.Run.{Run}
use Rattle.run_lines.specs.RunLines.{is_over, shows, zeros, profile_now}
use Rattle.list_calls.specs.declared.answers.Said.{Said}
use Rattle.list_calls.specs.Answers.{said}
use Rattle.asked_lines.specs.AskedLines.{done_said, line_call, showed_of, asked_of, area_beside, called_of, answered_of}

abbrev showing : Station → Shown × (List ℕ × List ℕ) → Said × (List ℕ × List ℕ)
showing s q = (said q.0.ok s q.0.text, q.1)

pub shown_by : (s : Station) {q : Shown} {x : List ℕ × List ℕ} {m : Shown × (List ℕ × List ℕ)} → (q, x) ≡ m → showing s (q, x) ≡ showing s m
shown_by s e = ap (showing s) e

-- what was lent of l, its first k bytes, is put back as it is then
put_back : (l r : List ℕ) (k : ℕ) → k ≤ length l → length r ≡ k → r ++ drop k l ≡ overwrite l 0 r
put_back l r k h e = sym (over-eq l 0 r (omega arith) ∙ ap (λ (n : ℕ). r ++ drop n l) (zero-add (length r) ∙ e))

module _ {B : Type 0} where
  abbrev first : List ℕ → Said × (List ℕ × B) → Said × (List ℕ × B)
  first l m = (m.0, (overwrite l 0 m.1.0, m.1.1))

  pub put_first : {q : Said} {r : List ℕ} {b : B} {m : Said × (List ℕ × B)} (l : List ℕ) (k : ℕ) → k ≤ length l → length r ≡ k
      → (q, (r, b)) ≡ m → (q, (r ++ drop k l, b)) ≡ first l m
  put_first {q} {r} {b} l k h e f = ap (λ (o : List ℕ). (q, (o, b))) (put_back l r k h e) ∙ ap (first l) f

abbrev second : List ℕ → Said × (List ℕ × (List ℕ × List ℕ)) → Said × (List ℕ × (List ℕ × List ℕ))
second l m = (m.0, (m.1.0, (overwrite l 0 m.1.1.0, m.1.1.1)))

pub put_second : {q : Said} {a r t : List ℕ} {m : Said × (List ℕ × (List ℕ × List ℕ))} (l : List ℕ) (k : ℕ) → k ≤ length l → length r ≡ k
    → (q, (a, (r, t))) ≡ m → (q, (a, (r ++ drop k l, t))) ≡ second l m
put_second {q} {a} {r} {t} l k h e f = ap (λ (o : List ℕ). (q, (a, (o, t)))) (put_back l r k h e) ∙ ap (second l) f

-- a call: what is to do about it
module _ (chars : List ℕ) (run : Run) (p : Profile) (s : Station) (a out t : List ℕ) where
  pub called-shown : {call : Named} {o : List ℕ} {q : Said} {x : List ℕ × List ℕ} → o ≡ zeros out → call ≡ line_call chars
      → shows run.todo ≡ true → (q, x) ≡ showed_of call chars p s a run.out o (run.text, t)
      → area_beside a (q, x) ≡ called_of chars run p s a out t
  unfolding called_of
  called-shown e f g h =
      cond_yes _ _ _ _ g
      (ap (area_beside a) (h ∙ ap₂ (λ (call : Named) (o : List ℕ). showed_of call chars p s a run.out o (run.text, t)) f e))

  pub called-asked : {call : Named} {o : List ℕ} {x : Said × (List ℕ × (List ℕ × List ℕ))} → o ≡ zeros out → call ≡ line_call chars
      → shows run.todo ≡ false → x ≡ asked_of call chars run p s a o t → x ≡ called_of chars run p s a out t
  unfolding called_of
  called-asked e f g h =
      cond_no _ _ _ _ g
      (h ∙ ap₂ (λ (call : Named) (o : List ℕ). asked_of call chars run p s a o t) f e)

-- a line that is done, or a call
module _ (chars : List ℕ) (run : Run) (s : Station) (a out t v file : List ℕ) where
  abbrev all_kept : Said → Said × (List ℕ × (List ℕ × List ℕ))
  all_kept q = (q, (a, (out, t)))

  pub line-done : {q : Said} → is_over run.todo ≡ true → q ≡ done_said run s → all_kept q ≡ answered_of chars run s a out t v file
  unfolding answered_of
  line-done e f = cond_yes _ _ _ _ e (ap all_kept f)

  pub line-called : {p : Profile} {x : Said × (List ℕ × (List ℕ × List ℕ))} → is_over run.todo ≡ false → p ≡ profile_now run v file
      → x ≡ called_of chars run p s a out t → x ≡ answered_of chars run s a out t v file
  unfolding answered_of
  line-called e f g = cond_no _ _ _ _ e (g ∙ ap (λ (p : Profile). called_of chars run p s a out t) f)
