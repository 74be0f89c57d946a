-- The pass that closes the gaps of messages withdrawn.
-- Assumes nothing.
use mathlib.Core.Path.{◌≡◌, refl, sym, ap, ap₂, ◌∙◌}
use mathlib.Core.List.{List, [], ◌∷◌, ◌++◌}
use mathlib.Core.Bool.{Bool, true, false, not, ◌&&◌, ◌||◌}
use Prim.Native.Nat.{ℕ, ◌+◌, ◌-◌, ◌≤◌, ◌<◌}
use native.Mathlib.Nat.{sub-zero}
use native.Mathlib.Omega.{arith}
use lib.ListN.{length, take, drop}
use lib.Seq.{drop-drop}
use Rattle.laws.specs.Bytes.{overwrite, part}
use Rattle.laws.proofs.Bytes.{length_over, over-nil, over-cat, drop-over, length_part}
use Rattle.ledger.specs.Queue.{goes, withdraws}
use Rattle.messages.specs.Messages.{Entry, entry_in_row, entries_in, total_left, begun_in, messages_of, queue_in}
use Rattle.messages.specs.MessagesCode.{stay_in, stay_queue}
use Rattle.messages.specs.declared.Messages.{Messages}
use Rattle.messages.proofs.Entries.{entries-step, entries_none, with-begun}
use Rattle.messages.proofs.Scan.{rest, total-turn}
use Rattle.messages.proofs.Withdrawn.{stay-yes, stay-no, total-one}
use Rattle.queuing.specs.StationCode.{stay_bytes}

-- the code's test
pub stays-test : (b r c : Bool) → (b || not r) ≡ c → (not b && r) ≡ not c
stays-test true r c e = ap not e
stays-test false true c e = ap not e
stays-test false false c e = ap not e

-- the bytes that stay, of entries and waiting bytes
abbrev kept : ℕ → Bool → List Entry → List ℕ → List ℕ
kept l b es w = goes (stay_queue l (record { begun = b; messages = messages_of es w }))

module _ (l : ℕ) (e : Entry) (es : List Entry) (w : List ℕ) where
  kept-yes : (b : Bool) → (not b && withdraws l e.label) ≡ false → kept l b (e ∷ es) w ≡ take e.left w ++ kept l false es (drop e.left w)
  kept-yes true t = refl
  kept-yes false t = rw t

  kept-no : (b : Bool) → (not b && withdraws l e.label) ≡ true → kept l b (e ∷ es) w ≡ kept l false es (drop e.left w)
  kept-no true t = let z : ◌≡◌ {A = ℕ} 0 1 = cc in absurd (omega arith)
  kept-no false t = rw t

-- what is left to do from row i on: the bytes at `from` and behind that stay go to `to` and behind
pub record Closing (m : Messages) (l first : ℕ) (a₀ a : List ℕ) (b : Bool) (to from i : ℕ) : Type 0 where
  pub high : i ≤ m.n
  pub low : first ≤ to
  pub back : to ≤ from
  pub fits : from + total_left (rest m m.n i) ≤ length a
  pub long : length a ≡ length a₀
  pub bytes : first + total_left (stay_in l (begun_in m) (entries_in m)) ≡ to + total_left (stay_in l b (rest m m.n i))
  pub same : overwrite a₀ first (stay_bytes l m (drop first a₀)) ≡ overwrite a to (kept l b (rest m m.n i) (drop from a))

pub closing-start : (m : Messages) (l first : ℕ) (a : List ℕ) → first + total_left (entries_in m) ≤ length a → Closing m l first a a m.begun first first 0
unfolding queue_in
closing-start m l first a h = record {
  high = omega arith;
  low = omega arith;
  back = omega arith;
  fits = simp sub-zero h;
  long = refl;
  bytes = simp sub-zero (ap (λ (es : List Entry). first + total_left es) (sym (with-begun (stay_in l) refl m)));
  same = simp sub-zero (ap (overwrite a first) (sym (with-begun (λ (b : Bool) (es : List Entry). kept l b es (drop first a)) refl m)));
}

module _ (m : Messages) (l first : ℕ) (a₀ a : List ℕ) (b : Bool) (to from i : ℕ) (s : Closing m l first a₀ a b to from i) (h : i < m.n) where
  abbrev e : Entry
  e = entry_in_row m i

  abbrev later : List Entry
  later = rest m m.n (i + 1)

  here : rest m m.n i ≡ e ∷ later
  here = entries-step m i m.n h

  pub entry-fits : from + e.left ≤ length a
  entry-fits = omega (arith, s.fits, total-turn m m.n i h)

  -- it is withdrawn
  pub closing-gone : (not b && withdraws l e.label) ≡ true → Closing m l first a₀ a false to (from + e.left) (i + 1)
  closing-gone t = record {
    high = omega arith;
    low = s.low;
    back = omega (arith, s.back);
    fits = omega (arith, s.fits, total-turn m m.n i h);
    long = s.long;
    bytes = s.bytes ∙ ap (λ (es : List Entry). to + total_left es) (ap (stay_in l b) here ∙ stay-no l b e later t);
    same = s.same ∙ ap (overwrite a to)
        (ap (λ (es : List Entry). kept l b es (drop from a)) here ∙ kept-no l e later (drop from a) b t ∙ ap (kept l false later) (drop-drop e.left from a));
  }

  -- it stays
  pub closing-kept : (d : List ℕ) → (not b && withdraws l e.label) ≡ false → d ≡ overwrite a to (part a from e.left) → Closing m l first a₀ d false (to + e.left) (from + e.left) (i + 1)
  closing-kept d t p =
      let x = part a from e.left in
      let n : length x ≡ e.left = length_part a from e.left entry-fits in
      let k = kept l false later (drop (from + e.left) a) in
      let moved : drop (from + e.left) (overwrite a to x) ≡ drop (from + e.left) a = drop-over (from + e.left) a to x (omega (arith, s.back)) in
      rw p (record {
        high = omega arith;
        low = omega (arith, s.low);
        back = omega (arith, s.back);
        fits = omega (arith, s.fits, total-turn m m.n i h, length_over a to x);
        long = length_over a to x ∙ s.long;
        bytes = omega (arith, s.bytes, ap total_left (ap (stay_in l b) here ∙ stay-yes l b e later t), total-one e (stay_in l false later));
        same = s.same ∙ ap (overwrite a to)
            (ap (λ (es : List Entry). kept l b es (drop from a)) here ∙ kept-yes l e later (drop from a) b t ∙ ap (λ (v : List ℕ). x ++ kept l false later v) (drop-drop e.left from a))
            ∙ sym (over-cat a to x k) ∙ ap₂ (λ (j : ℕ) (v : List ℕ). overwrite (overwrite a to x) (to + j) (kept l false later v)) n (sym moved);
      })

-- the end
pub closing_end : (m : Messages) (l first : ℕ) (a₀ a : List ℕ) (b : Bool) (to from i : ℕ) → Closing m l first a₀ a b to from i → m.n ≤ i
    → (to - first ≡ total_left (stay_in l (begun_in m) (entries_in m))) × (a ≡ overwrite a₀ first (stay_bytes l m (drop first a₀)))
unfolding total_left
closing_end m l first a₀ a b to from i s h =
    let z = entries_none m i m.n h in (
      omega (arith, s.bytes, s.low, ap (λ (es : List Entry). total_left (stay_in l b es)) z ∙ no_bytes b),
      sym (s.same ∙ ap (λ (es : List Entry). overwrite a to (kept l b es (drop from a))) z ∙ ap (overwrite a to) (none_kept b) ∙ over-nil a to),
    )
  where
    no_bytes : (c : Bool) → total_left (stay_in l c []) ≡ 0
    no_bytes true = refl
    no_bytes false = refl

    none_kept : (c : Bool) → kept l c [] (drop from a) ≡ []
    none_kept true = refl
    none_kept false = refl
