-- Laws of a withdrawal, on entries: turns of the loops, and what goes and stays together.
-- Assumes nothing.
use Prim.Native.Nat.{ℕ, ◌+◌, ◌≤◌}
use mathlib.Core.Path.{◌≡◌, refl, sym, ap, ◌∙◌}
use mathlib.Core.Bool.{Bool, true, false, cond, not, ◌&&◌, ◌||◌}
use mathlib.Core.List.{List, [], ◌∷◌}
use native.Mathlib.Nat.{add-zero, zero-add}
use native.Mathlib.Omega.{arith}
use lib.ListN.{length, set}
use lib.Dec.{eqb}
use borrow.Author.Tests.{eqb-true, ne_eqb}
use Rattle.laws.specs.Bytes.{overwrite}
use Rattle.laws.proofs.Bytes.{over-nil, over-cat, set-over}
use Rattle.laws.proofs.Picks.{by, test}
use Rattle.ledger.specs.Queue.{behind, those, withdraws}
use Rattle.messages.specs.declared.Messages.{Messages}
use Rattle.messages.specs.declared.Withdrawal.{Withdrawal}
use Rattle.messages.specs.Messages.{Entry, entries_in, lefts, classes, labels, total_left, begun_in, store_entries, with_withdrawn, withdrawn_in}
use Rattle.messages.specs.MessagesCode.{superseded_in, go_in, stay_in, withdrawn}
use Rattle.messages.specs.SoundCode.{Each}
use Rattle.messages.proofs.Entries.{with_rows, stored, with-begun}

-- ---- a turn

module _ (l : ℕ) (b : Bool) (e : Entry) (es : List Entry) where
  -- the test that the loops make
  abbrev goes : Bool
  goes = not b && withdraws l e.label

  pub go-yes : goes ≡ true → go_in l b (e ∷ es) ≡ e ∷ go_in l false es
  go-yes t = go b t
    where
      go : (f : Bool) → (not f && withdraws l e.label) ≡ true → go_in l f (e ∷ es) ≡ e ∷ go_in l false es
      go true t = let z : ◌≡◌ {A = ℕ} 0 1 = cc in absurd (omega arith)
      go false t = rw t

  pub go-no : goes ≡ false → go_in l b (e ∷ es) ≡ go_in l false es
  go-no t = go b t
    where
      go : (f : Bool) → (not f && withdraws l e.label) ≡ false → go_in l f (e ∷ es) ≡ go_in l false es
      go true t = refl
      go false t = rw t

  pub stay-yes : goes ≡ false → stay_in l b (e ∷ es) ≡ e ∷ stay_in l false es
  stay-yes t = go b t
    where
      go : (f : Bool) → (not f && withdraws l e.label) ≡ false → stay_in l f (e ∷ es) ≡ e ∷ stay_in l false es
      go true t = refl
      go false t = rw t

  pub stay-no : goes ≡ true → stay_in l b (e ∷ es) ≡ stay_in l false es
  stay-no t = go b t
    where
      go : (f : Bool) → (not f && withdraws l e.label) ≡ true → stay_in l f (e ∷ es) ≡ stay_in l false es
      go true t = let z : ◌≡◌ {A = ℕ} 0 1 = cc in absurd (omega arith)
      go false t = rw t

-- ---- the record in a loop that withdraws: what is left to do from row i on, where `to` entries stay so far

abbrev pub leaves : Messages → ℕ → ℕ → Bool → List Entry → Bool → Messages
leaves out to l b es f =
    record {
      left = overwrite out.left to (lefts (stay_in l b es));
      class = overwrite out.class to (classes (stay_in l b es));
      label = overwrite out.label to (labels (stay_in l b es));
      n = to + length (stay_in l b es);
      withdrawn = out.withdrawn + total_left (go_in l b es);
      begun = f;
    }

over-one : (xs : List ℕ) (at x : ℕ) (ys : List ℕ) → overwrite xs at (x ∷ ys) ≡ overwrite (set xs at x) (at + 1) ys
over-one xs at x ys = sym (over-cat xs at (x ∷ []) ys) ∙ ap (λ (v : List ℕ). overwrite v (at + 1) ys) (sym (set-over xs at x))

pub leaves-start : (l : ℕ) (m : Messages) → withdrawn l m ≡ leaves m 0 l m.begun (entries_in m) (begun_in m)
unfolding withdrawn store_entries
leaves-start l m =
    let xs = stay_in l (begun_in m) (entries_in m) in
    ap
    (λ (n : ℕ).
    record {
      left = overwrite m.left 0 (lefts xs);
      class = overwrite m.class 0 (classes xs);
      label = overwrite m.label 0 (labels xs);
      n = n;
      withdrawn = m.withdrawn + total_left (go_in l (begun_in m) (entries_in m));
      begun = begun_in m;
    })
    (sym (zero-add (length xs)))
    ∙ sym (with-begun (λ (b : Bool) (es : List Entry). leaves m 0 l b es (begun_in m)) refl m)

-- k bytes more are withdrawn
abbrev pub more : Messages → ℕ → Messages
more m k = with_withdrawn (m.withdrawn + k) m

module _ (out : Messages) (to l : ℕ) (b : Bool) (e : Entry) (es : List Entry) (f : Bool) where
  pub leaves-go : (not b && withdraws l e.label) ≡ true → leaves out to l b (e ∷ es) f ≡ leaves (more out e.left) to l false es f
  unfolding total_left
  leaves-go t =
      let w : out.withdrawn + total_left (go_in l b (e ∷ es)) ≡ out.withdrawn + e.left + total_left (go_in l false es) = omega (arith, ap total_left (go-yes l b e es t)) in
      λ k.
      let xs = stay-no l b e es t k in
      record {
        left = overwrite out.left to (lefts xs);
        class = overwrite out.class to (classes xs);
        label = overwrite out.label to (labels xs);
        n = to + length xs;
        withdrawn = w k;
        begun = f;
      }

  pub leaves-stay : (not b && withdraws l e.label) ≡ false → leaves out to l b (e ∷ es) f ≡ leaves (stored out to e) (to + 1) l false es f
  leaves-stay t =
      let xs = stay_in l false es in
      let s = stay-yes l b e es t in
      let n : to + length (stay_in l b (e ∷ es)) ≡ to + 1 + length xs = omega (arith, ap length s) in
      let left = ap (λ (ys : List Entry). overwrite out.left to (lefts ys)) s ∙ over-one out.left to e.left (lefts xs) in
      let class = ap (λ (ys : List Entry). overwrite out.class to (classes ys)) s ∙ over-one out.class to e.class (classes xs) in
      let label = ap (λ (ys : List Entry). overwrite out.label to (labels ys)) s ∙ over-one out.label to e.label (labels xs) in
      λ k.
      record {
        left = left k;
        class = class k;
        label = label k;
        n = n k;
        withdrawn = out.withdrawn + total_left (go-no l b e es t k);
        begun = f;
      }

pub leaves-end : (out : Messages) (to l : ℕ) (b : Bool) (es : List Entry) (f : Bool) → es ≡ [] →
    leaves out to l b es f ≡ with_rows out out.left out.class out.label to f
unfolding total_left
leaves-end out to l b es f e = ap (λ (xs : List Entry). leaves out to l b xs f) e ∙ go b
  where
    alone : leaves out to l false [] f ≡ with_rows out out.left out.class out.label to f
    alone =
        λ k.
        record {
          left = over-nil out.left to k;
          class = over-nil out.class to k;
          label = over-nil out.label to k;
          n = add-zero to k;
          withdrawn = add-zero out.withdrawn k;
          begun = f;
        }

    go : (c : Bool) → leaves out to l c [] f ≡ with_rows out out.left out.class out.label to f
    go true = alone
    go false = alone

-- ---- what a queuing supersedes

pub superseded-start : (l n : ℕ) (m : Messages) → (n ≡ 0 → ⊥) → superseded_in l n m ≡ record { n = length (go_in l m.begun (entries_in m)); bytes = total_left (go_in l m.begun (entries_in m)) }
unfolding withdrawn_in
superseded-start l n m h =
    let of : List Entry → Withdrawal = λ xs. record { n = length xs; bytes = total_left xs } in
    ap of (rw (ne_eqb n 0 h) (sym (with-begun (go_in l) refl m)))

pub total-one : (e : Entry) (es : List Entry) → total_left (e ∷ es) ≡ e.left + total_left es
unfolding total_left
total-one e es = refl

pub superseded-end : (l : ℕ) (b : Bool) (es : List Entry) → es ≡ [] → (length (go_in l b es) ≡ 0) × (total_left (go_in l b es) ≡ 0)
unfolding total_left
superseded-end l b es e = let z = ap (go_in l b) e ∙ go b in (ap length z, ap total_left z)
  where
    go : (c : Bool) → go_in l c [] ≡ []
    go true = refl
    go false = refl

none-gone : (es : List Entry) → those (λ (e : Entry). withdraws 0 e.label) es ≡ []
none-gone [] = refl
none-gone (e ∷ es) = none-gone es

pub nothing-gone : (l n : ℕ) (m : Messages) → (eqb n 0 || eqb l 0) ≡ true → withdrawn_in l n m ≡ []
unfolding withdrawn_in
nothing-gone l n m t = go (eqb n 0) t
  where
    all : List Entry
    all = behind (begun_in m) (entries_in m)

    go : (b : Bool) → (b || eqb l 0) ≡ true → cond b [] (those (λ (e : Entry). withdraws l e.label) all) ≡ []
    go true t = refl
    go false t = ap (λ (k : ℕ). those (λ (e : Entry). withdraws k e.label) all) (eqb-true l 0 t) ∙ none-gone all

pub superseded-none : (l n : ℕ) (m : Messages) → (eqb n 0 || eqb l 0) ≡ true → superseded_in l n m ≡ record { n = 0; bytes = 0 }
unfolding total_left
superseded-none l n m t = let of : List Entry → Withdrawal = λ xs. record { n = length xs; bytes = total_left xs } in ap of (nothing-gone l n m t)

-- ---- what stays and what goes are all

module _ (p : Entry → Bool) where
  abbrev others : List Entry → List Entry
  others es = those (λ (e : Entry). not (p e)) es

  split : (es : List Entry) → (length (those p es) + length (others es) ≡ length es) × (total_left (those p es) + total_left (others es) ≡ total_left es)
  unfolding total_left
  split [] = (refl, refl)
  split (e ∷ es) =
      let i = split es in
      test (p e) (λ t. rw t (omega (arith, i.0), omega (arith, i.1))) (λ t. rw t (omega (arith, i.0), omega (arith, i.1)))

  each-those : (es : List Entry) → Each es → Each (those p es)
  each-those [] a = tt
  each-those (e ∷ es) a = by Each (p e) (λ _. (a.0, a.1, each-those es a.2)) (λ _. each-those es a.2)

module _ (l : ℕ) where
  pub stay-go : (b : Bool) (es : List Entry) → (length (stay_in l b es) + length (go_in l b es) ≡ length es) × (total_left (stay_in l b es) + total_left (go_in l b es) ≡ total_left es)
  unfolding total_left
  stay-go false es = let i = split (λ (e : Entry). withdraws l e.label) es in (omega (arith, i.0), omega (arith, i.1))
  stay-go true [] = (refl, refl)
  stay-go true (e ∷ es) = let i = split (λ (x : Entry). withdraws l x.label) es in (omega (arith, i.0), omega (arith, i.1))

  pub each_stay : (b : Bool) (es : List Entry) → Each es → Each (stay_in l b es)
  each_stay false es a = each-those (λ (e : Entry). not (withdraws l e.label)) es a
  each_stay true [] a = tt
  each_stay true (e ∷ es) a = (a.0, a.1, each-those (λ (x : Entry). not (withdraws l x.label)) es a.2)

  -- what is withdrawn of a queuing with bytes
  pub gone-in : (n : ℕ) (m : Messages) → 1 ≤ n → withdrawn_in l n m ≡ go_in l (begun_in m) (entries_in m)
  unfolding withdrawn_in
  gone-in n m h = rw (ne_eqb n 0 (λ e. omega arith))
