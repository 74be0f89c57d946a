-- Turns of the plan's loops, and its choices by cases. Assumes nothing.
use mathlib.Core.Path.{◌≡◌, refl, sym, ap, ◌∙◌}
use mathlib.Core.List.{List, [], ◌∷◌, ◌++◌}
use mathlib.Core.Bool.{Bool, true, false, cond, ◌&&◌, ◌||◌}
use Prim.Native.Nat.{ℕ, zero, suc, ◌+◌, ◌-◌, ◌≤◌, ◌<◌, max}
use native.Mathlib.Nat.{zero-add, add-zero, add_assoc}
use native.Mathlib.Omega.{arith}
use native.Mathlib.Numerals.{add-one}
use lib.ListN.{length, take, drop, get_or}
use lib.Seq.{drop-cons, take-suc, take-length}
use lib.Dec.{ltb, eqb}
use borrow.Author.Tests.{ne_eqb}
use Rattle.laws.proofs.Picks.{by}
use Rattle.harq.specs.Held.{increment_of}
use Rattle.harq.specs.declared.Harq.{Harq}
use Rattle.plan.specs.declared.Choice.{Choice}
use Rattle.plan.specs.declared.Planned.{Planned}
use Rattle.limits.specs.Limits.{max_slots, partial_max}
use Rattle.plan.specs.PlanningCode.{too_big_for, parity_bits_of, popped_from, parity_of, offered_of, room_counted, planned}

module _ (q : Harq) (c : Choice) where
  -- ---- the increments' bits

  pub bits-turn : (bs : List ℕ) (i : ℕ) → i < length bs → parity_bits_of q c (drop i bs) ≡ increment_of q (get_or bs i 0) c.slot + parity_bits_of q c (drop (i + 1) bs)
  unfolding parity_bits_of
  bits-turn bs i h = ap (parity_bits_of q c) (drop-cons bs i 0 h ∙ ap (λ (k : ℕ). get_or bs i 0 ∷ drop k bs) (sym (add-one i)))

  bits-append : (xs ys : List ℕ) → parity_bits_of q c (xs ++ ys) ≡ parity_bits_of q c xs + parity_bits_of q c ys
  unfolding parity_bits_of
  bits-append [] ys = sym (zero-add _)
  bits-append (x ∷ xs) ys = ap (λ (k : ℕ). increment_of q x c.slot + k) (bits-append xs ys) ∙ sym (add_assoc _ _ _)

  -- the last increment of n
  pub bits-last : (bs : List ℕ) (n : ℕ) → 0 < n → n ≤ length bs
      → parity_bits_of q c (take n bs) ≡ parity_bits_of q c (take (n - 1) bs) + increment_of q (get_or bs (n - 1) 0) c.slot
  unfolding parity_bits_of
  bits-last bs n h k =
      ap (λ (j : ℕ). parity_bits_of q c (take j bs)) (let e : n ≡ suc (n - 1) = omega arith in e)
      ∙ ap (parity_bits_of q c) (take-suc bs (n - 1) 0 (omega arith)) ∙ bits-append (take (n - 1) bs) (get_or bs (n - 1) 0 ∷ [])
      ∙ ap (λ (j : ℕ). parity_bits_of q c (take (n - 1) bs) + j) (add-zero _)

  pub bits-all : (bs : List ℕ) → parity_bits_of q c bs ≡ parity_bits_of q c (take (length bs) bs)
  bits-all bs = ap (parity_bits_of q c) (sym (take-length bs))

  module _ (bs : List ℕ) where
    -- ---- popped increments

    -- whether the n-th increment is popped
    abbrev pub goes : ℕ → Bool
    goes n = ltb partial_max n || too_big_for c n (parity_bits_of q c (take n bs))

    module _ (n : ℕ) (h : 0 < n) where
      pop_step : popped_from q c bs n ≡ cond (goes n) (popped_from q c bs (n - 1)) n
      unfolding popped_from
      pop_step =
          let e : n ≡ suc (n - 1) = omega arith in
          ap (popped_from q c bs) e ∙ ap (λ (k : ℕ). cond (goes k) (popped_from q c bs (n - 1)) k) (sym e)

      pub pop-less : goes n ≡ true → popped_from q c bs n ≡ popped_from q c bs (n - 1)
      pop-less e = pop_step ∙ ap (λ (t : Bool). cond t (popped_from q c bs (n - 1)) n) e

      pub pop-stop : goes n ≡ false → popped_from q c bs n ≡ n
      pop-stop e = pop_step ∙ ap (λ (t : Bool). cond t (popped_from q c bs (n - 1)) n) e

    pub pop-end : (n : ℕ) → n ≤ 0 → popped_from q c bs n ≡ 0
    unfolding popped_from
    pop-end n h = ap (popped_from q c bs) (let e : n ≡ 0 = omega arith in e)

    pub pop-le : (n : ℕ) → popped_from q c bs n ≤ n
    unfolding popped_from
    pop-le zero = omega arith
    pop-le (suc n) = by (λ (k : ℕ). k ≤ suc n) (goes (suc n)) (λ e. omega (arith, pop-le n)) (λ e. omega arith)

    -- ---- how many increments

    abbrev sum : ℕ → ℕ
    sum n = parity_bits_of q c (take n bs)

    -- of n that do not fit
    abbrev fewer : ℕ → ℕ
    fewer n = cond c.partial (popped_from q c bs n) 0

    abbrev pick : ℕ → ℕ
    pick n = cond (too_big_for c n (sum n)) (fewer n) n

    cond_same : (b : Bool) (x : ℕ) → cond b x x ≡ x
    cond_same true x = refl
    cond_same false x = refl

    pub parity-none : (c.long && c.same_wave) ≡ false → parity_of q c bs ≡ 0
    unfolding parity_of popped_from
    parity-none e =
        ap (λ (b : Bool). pick (cond b (length bs) 0)) e
        ∙ ap (λ (x : ℕ). cond (too_big_for c 0 (sum 0)) x 0) (cond_same c.partial 0)
        ∙ cond_same (too_big_for c 0 (sum 0)) 0

    module _ (e : (c.long && c.same_wave) ≡ true) (s : ℕ) (t : s ≡ parity_bits_of q c bs) where
      all-offered : parity_of q c bs ≡ pick (length bs)
      unfolding parity_of
      all-offered = ap (λ (b : Bool). pick (cond b (length bs) 0)) e

      sum_is : sum (length bs) ≡ s
      sum_is = sym (t ∙ bits-all bs)

      picked : (b : Bool) → too_big_for c (length bs) s ≡ b → parity_of q c bs ≡ cond b (fewer (length bs)) (length bs)
      picked b h = all-offered ∙ ap (λ (x : Bool). cond x (fewer (length bs)) (length bs)) (ap (too_big_for c (length bs)) sum_is ∙ h)

      pub parity-all : too_big_for c (length bs) s ≡ false → parity_of q c bs ≡ length bs
      parity-all h = picked false h

      pub parity-fewer : too_big_for c (length bs) s ≡ true → (b : Bool) → c.partial ≡ b → parity_of q c bs ≡ cond b (popped_from q c bs (length bs)) 0
      parity-fewer h b p = picked true h ∙ ap (λ (x : Bool). cond x (popped_from q c bs (length bs)) 0) p

    pick-le : (n : ℕ) → pick n ≤ n
    pick-le n =
        by (λ (k : ℕ). k ≤ n) (too_big_for c n (sum n))
        (λ d. by (λ (k : ℕ). k ≤ n) c.partial (λ e. pop-le n) (λ e. omega arith))
        (λ d. omega arith)

    pub parity-le : parity_of q c bs ≤ length bs
    unfolding parity_of
    parity-le =
        let o : offered_of q c bs ≤ length bs = by (λ (k : ℕ). k ≤ length bs) (c.long && c.same_wave) (λ e. omega arith) (λ e. omega arith) in
        omega (arith, pick-le (offered_of q c bs))

    -- ---- the plan

    module _ (n : ℕ) (p : n ≡ parity_of q c bs) where
      pub plan-none : (r : ℕ) → n ≡ 0 → r ≡ max 1 (room_counted c 0 0 0 max_slots 0) → ◌≡◌ {A = Planned} (record { parity = 0; parity_bits = 0; stored = 0; room = r }) (planned q c bs)
      unfolding planned parity_bits_of
      plan-none r z e = let y : parity_of q c bs ≡ 0 = sym p ∙ z in rw (y, e)

      pub plan-some : (r s : ℕ) → (n ≡ 0 → ⊥) → s ≡ parity_bits_of q c (take n bs) → r ≡ room_counted c n (length bs) s max_slots 0
          → ◌≡◌ {A = Planned} (record { parity = n; parity_bits = s; stored = length bs; room = r }) (planned q c bs)
      unfolding planned
      plan-some r s z f e =
          let t : eqb n 0 ≡ false = ne_eqb n 0 z in
          rw (← p, t, e, f)
