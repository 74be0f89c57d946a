-- Turns and ends of the loops that read the entries.
-- Assumes nothing.
use Prim.Native.Nat.{ℕ, ◌+◌, ◌-◌, ◌≤◌, ◌<◌}
use mathlib.Core.Path.{◌≡◌, ap, ◌∙◌}
use mathlib.Core.Bool.{Bool, true, false, cond, not, ◌&&◌, ◌||◌}
use mathlib.Core.List.{List}
use native.Mathlib.Omega.{arith}
use lib.ListN.{get_or}
use lib.Dec.{leb, ltb, eqb}
use borrow.Author.Tests.{le-leb, lt-leb, eq-eqb, ne_eqb, ltb-true, ltb-false}
use Rattle.limits.specs.Limits.{max_class}
use Rattle.messages.specs.declared.Messages.{Messages}
use Rattle.messages.specs.Messages.{Entry, entries_from, total_left, entries_ok}
use Rattle.messages.specs.MessagesCode.{place_in, gone_in}
use Rattle.messages.proofs.Entries.{entries-step, entries_none}

-- the entries from row i on
abbrev pub rest : Messages → ℕ → ℕ → List Entry
rest m n i = entries_from m i (n - i)

-- ---- a turn at row i

module _ (m : Messages) (n i : ℕ) (h : i < n) where
  abbrev l : ℕ
  l = get_or m.left i 0

  abbrev c : ℕ
  c = get_or m.class i 0

  pub ok-turn : entries_ok (rest m n i) ≡ (ltb 0 l && (leb c max_class && entries_ok (rest m n (i + 1))))
  unfolding entries_ok
  ok-turn = ap entries_ok (entries-step m i n h)

  pub total-turn : total_left (rest m n i) ≡ l + total_left (rest m n (i + 1))
  unfolding total_left
  total-turn = ap total_left (entries-step m i n h)

  place-turn : (d bytes : ℕ) (b : Bool) → place_in d i bytes b (rest m n i) ≡ cond (b || leb c d) (place_in d (i + 1) (bytes + l) false (rest m n (i + 1))) (record { row = i; bytes = bytes })
  unfolding place_in
  place-turn d bytes b = ap (place_in d i bytes b) (entries-step m i n h)

  -- not begun, and of a higher class
  pub place-stop : (d bytes : ℕ) (b : Bool) → (not b && ltb d c) ≡ true → place_in d i bytes b (rest m n i) ≡ record { row = i; bytes = bytes }
  place-stop d bytes true t = let z : ◌≡◌ {A = ℕ} 0 1 = cc in absurd (omega arith)
  place-stop d bytes false t = place-turn d bytes false ∙ rw (lt-leb c d (ltb-true d c t))

  pub place-pass : (d bytes : ℕ) (b : Bool) → (not b && ltb d c) ≡ false → place_in d i bytes b (rest m n i) ≡ place_in d (i + 1) (bytes + l) false (rest m n (i + 1))
  place-pass d bytes true t = place-turn d bytes true
  place-pass d bytes false t = place-turn d bytes false ∙ rw (le-leb c d (ltb-false d c t))

  gone-turn : (k : ℕ) (b : Bool) → gone_in k i b (rest m n i)
      ≡ cond (eqb k 0) (record { rows = i; left = l; begun = b }) (cond (leb l k) (gone_in (k - l) (i + 1) false (rest m n (i + 1))) (record { rows = i; left = l - k; begun = true }))
  unfolding gone_in
  gone-turn k b = ap (gone_in k i b) (entries-step m i n h)

  pub gone-none : (k : ℕ) (b : Bool) → k ≡ 0 → gone_in k i b (rest m n i) ≡ record { rows = i; left = l; begun = b }
  gone-none k b e = gone-turn k b ∙ rw (eq-eqb k 0 e)

  pub gone-cut : (k : ℕ) (b : Bool) → (k ≡ 0 → ⊥) → k < l → gone_in k i b (rest m n i) ≡ record { rows = i; left = l - k; begun = true }
  gone-cut k b e s = gone-turn k b ∙ rw (ne_eqb k 0 e, lt-leb l k s)

  pub gone_whole : (k : ℕ) (b : Bool) → (k ≡ 0 → ⊥) → l ≤ k → gone_in k i b (rest m n i) ≡ gone_in (k - l) (i + 1) false (rest m n (i + 1))
  gone_whole k b e s = gone-turn k b ∙ rw (ne_eqb k 0 e, le-leb l k s)

-- ---- the end

module _ (m : Messages) (n i : ℕ) (h : n ≤ i) where
  pub ok_end : entries_ok (rest m n i) ≡ true
  unfolding entries_ok
  ok_end = ap entries_ok (entries_none m i n h)

  pub total-end : total_left (rest m n i) ≡ 0
  unfolding total_left
  total-end = ap total_left (entries_none m i n h)

  pub place_end : (d bytes : ℕ) (b : Bool) → place_in d i bytes b (rest m n i) ≡ record { row = i; bytes = bytes }
  unfolding place_in
  place_end d bytes b = ap (place_in d i bytes b) (entries_none m i n h)

  pub gone-end : (k : ℕ) (b : Bool) → gone_in k i b (rest m n i) ≡ record { rows = i; left = 0; begun = false }
  unfolding gone_in
  gone-end k b = ap (gone_in k i b) (entries_none m i n h)
