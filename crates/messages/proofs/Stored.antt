-- Entries that are stored are read back.
-- Assumes nothing.
use Prim.Native.Nat.{ℕ, zero, suc, ◌+◌, ◌≤◌, ◌<◌}
use mathlib.Core.Path.{◌≡◌, refl, sym, ap, ap₂, ◌∙◌}
use mathlib.Core.Bool.{Bool}
use mathlib.Core.List.{List, [], ◌∷◌}
use native.Mathlib.Omega.{arith}
use lib.ListN.{length, get_or}
use lib.Seq.{get_or-set_same}
use Rattle.laws.specs.Bytes.{overwrite}
use Rattle.laws.proofs.Bytes.{length_over, over-cat, over-front, set-over}
use Rattle.limits.specs.Limits.{max_messages}
use Rattle.messages.specs.declared.Messages.{Messages}
use Rattle.messages.specs.Messages.{Entry, entry_of, entries_from, entries_in, lefts, classes, labels, store_entries, with_withdrawn}
use Rattle.messages.specs.SoundCode.{Sized}

at-over : (l : List ℕ) (i x : ℕ) (xs : List ℕ) → i < length l → get_or (overwrite l i (x ∷ xs)) i 0 ≡ x
at-over l i x xs h =
    ap (λ (r : List ℕ). get_or r i 0) (sym (set-over (overwrite l (i + 1) xs) i x ∙ over-front l i (x ∷ []) xs))
    ∙ get_or-set_same (overwrite l (i + 1) xs) i x 0 (omega (arith, length_over l (i + 1) xs))

-- the record with other arrays: the count and the flag don't matter to what a row holds
abbrev rows : List ℕ → List ℕ → List ℕ → Messages → Messages
rows l c b m = record { left = l; class = c; label = b; n = m.n; withdrawn = m.withdrawn; begun = m.begun }

-- the record with entries from row i on
abbrev over : Messages → ℕ → List Entry → Messages
over m i es = rows (overwrite m.left i (lefts es)) (overwrite m.class i (classes es)) (overwrite m.label i (labels es)) m

-- each array has the rows from i to before i + k
abbrev Within : Messages → ℕ → ℕ → Type 0
Within m i k = (i + k ≤ length m.left) × (i + k ≤ length m.class) × (i + k ≤ length m.label)

written : (es : List Entry) (m : Messages) (i : ℕ) → Within m i (length es) → entries_from (over m i es) i (length es) ≡ es
written [] m i h = refl
written (e ∷ es) m i h =
    let split : over m i (e ∷ es) ≡ over (over m i (e ∷ [])) (i + 1) es =
    λ k.
    rows (sym (over-cat m.left i (e.left ∷ []) (lefts es)) k) (sym (over-cat m.class i (e.class ∷ []) (classes es)) k)
    (sym (over-cat m.label i (e.label ∷ []) (labels es)) k) m in
    let here : entry_of (get_or (over m i (e ∷ es)).left i 0) (get_or (over m i (e ∷ es)).class i 0) (get_or (over m i (e ∷ es)).label i 0) ≡ e =
    λ k.
    entry_of (at-over m.left i e.left (lefts es) (omega (arith, h.0)) k) (at-over m.class i e.class (classes es) (omega (arith, h.1)) k)
    (at-over m.label i e.label (labels es) (omega (arith, h.2)) k) in
    ap₂ (λ (x : Entry) (xs : List Entry). x ∷ xs) here
    (ap (λ (x : Messages). entries_from x (i + 1) (length es)) split
    ∙ written es (over m i (e ∷ [])) (i + 1) (
      omega (arith, h.0, length_over m.left i (e.left ∷ [])),
      omega (arith, h.1, length_over m.class i (e.class ∷ [])),
      omega (arith, h.2, length_over m.label i (e.label ∷ [])),
    ))

-- a row depends on the arrays alone
alike : (a b : Messages) → a.left ≡ b.left → a.class ≡ b.class → a.label ≡ b.label → (i k : ℕ) → entries_from a i k ≡ entries_from b i k
alike a b l c d i zero = refl
alike a b l c d i (suc k) = ap₂ (λ (x : Entry) (xs : List Entry). x ∷ xs) (λ j. entry_of (get_or (l j) i 0) (get_or (c j) i 0) (get_or (d j) i 0)) (alike a b l c d (i + 1) k)

pub entries-withdrawn : (k : ℕ) (m : Messages) → entries_in (with_withdrawn k m) ≡ entries_in m
entries-withdrawn k m = alike (with_withdrawn k m) m refl refl refl 0 m.n

module _ (m : Messages) (s : Sized m) (b : Bool) (es : List Entry) where
  pub entries-stored : length es ≤ max_messages → entries_in (store_entries b es m) ≡ es
  unfolding store_entries
  entries-stored h =
      alike (store_entries b es m) (over m 0 es) refl refl refl 0 (length es)
      ∙ written es m 0 (omega (arith, s.left), omega (arith, s.class), omega (arith, s.label))

  pub sized-stored : Sized (store_entries b es m)
  unfolding store_entries
  sized-stored =
      record {
        left = length_over m.left 0 (lefts es) ∙ s.left;
        class = length_over m.class 0 (classes es) ∙ s.class;
        label = length_over m.label 0 (labels es) ∙ s.label;
      }
