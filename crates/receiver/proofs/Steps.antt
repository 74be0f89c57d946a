-- One frame by its cases, and the bounds of what is counted. Assumes nothing.
use Prim.Native.Nat.{ℕ, suc, ◌+◌, ◌-◌, ◌^◌, ◌≤◌, ◌<◌, min}
use mathlib.Core.Path.{◌≡◌, refl, sym, ap, ap₂, ◌∙◌, subst}
use mathlib.Core.Bool.{true, false, ◌&&◌}
use mathlib.Core.List.{List, [], ◌∷◌}
use native.Mathlib.Omega.{arith}
use native.Mathlib.Nat.{two-pow-succ}
use native.Mathlib.Numerals.{add-one}
use lib.Dec.{leb}
use lib.Pow.{pow_mono}
use lib.ListN.{length, take, drop, get_or, drop_of_length-le, length-drop}
use lib.Seq.{drop-cons, drop-drop, drop-length, take_all}
use borrow.Author.Tests.{leb-true, leb-false}
use Rattle.laws.proofs.Picks.{by, test, cond_yes, cond_no, and_yes, and_left, and_right, and_first, and_second}
use Rattle.window.specs.Window.{keep_from}
use Rattle.receiver.specs.declared.Taking.{Taking}
use Rattle.receiver.specs.Frames.{Slotted, off_of, payload_of, frame_ok, slot_ok, reach_ok}
use Rattle.receiver.specs.Taking.{none_taken, left_out, too_far, took_slot, take_one, all_taken, slotted}
use Rattle.receiver.specs.TakingCode.{InBounds}

module _ (first : ℕ) (x : Slotted) (t : Taking) (w : List ℕ) where
  pub out-slot : slot_ok t.least x.slot ≡ false → (left_out t, w) ≡ take_one first x (t, w)
  unfolding take_one
  out-slot e = cond_no (slot_ok t.least x.slot && frame_ok x.frame) _ _ _ (and_left _ _ e) refl

  pub out-frame : frame_ok x.frame ≡ false → (left_out t, w) ≡ take_one first x (t, w)
  unfolding take_one
  out-frame e = cond_no (slot_ok t.least x.slot && frame_ok x.frame) _ _ _ (and_right (slot_ok t.least x.slot) _ e) refl

  module _ (s : slot_ok t.least x.slot ≡ true) (f : frame_ok x.frame ≡ true) where
    pub out-far : reach_ok first x.frame ≡ false → (too_far t, w) ≡ take_one first x (t, w)
    unfolding take_one
    out-far e =
        cond_yes (slot_ok t.least x.slot && frame_ok x.frame) _ _ _ (and_yes _ _ s f) (cond_no (reach_ok first x.frame) _ _ _ e refl)

    pub taken : (w1 : List ℕ) → reach_ok first x.frame ≡ true → w1 ≡ keep_from first (off_of x.frame) (payload_of x.frame) w → (took_slot t x.slot, w1) ≡ take_one first x (t, w)
    unfolding take_one
    taken w1 e k =
        cond_yes (slot_ok t.least x.slot && frame_ok x.frame) _ _ _ (and_yes _ _ s f)
        (cond_yes (reach_ok first x.frame) _ _ _ e (ap (λ (y : List ℕ). (took_slot t x.slot, y)) k))

  pub bounds-one : (n : ℕ) → InBounds t n → InBounds (take_one first x (t, w)).0 (n + 1)
  unfolding take_one
  bounds-one n b =
      by (λ (y : Taking × List ℕ). InBounds y.0 (n + 1)) (slot_ok t.least x.slot && frame_ok x.frame)
      (λ ok. by (λ (y : Taking × List ℕ). InBounds y.0 (n + 1)) (reach_ok first x.frame)
      (λ r.
      let s = and_first (slot_ok t.least x.slot) (frame_ok x.frame) ok in
      let lo : t.least ≤ x.slot = leb-true _ _ (and_first _ _ s) in
      let hi : x.slot ≤ 63 = leb-true x.slot 63 (and_second (leb t.least x.slot) (leb x.slot 63) s) in
      record {
        few = omega (arith, hi);
        small = subst (λ (m : ℕ). t.bitmap + 2 ^ x.slot < m) (sym (two-more x.slot)) (omega (arith, b.small, pow_mono lo));
        wrong = omega (arith, b.wrong);
        beyond = omega (arith, b.beyond);
      })
      (λ r. record { few = b.few; small = b.small; wrong = omega (arith, b.wrong); beyond = omega (arith, b.beyond) }))
      (λ no. record { few = b.few; small = b.small; wrong = omega (arith, b.wrong); beyond = omega (arith, b.beyond) })
    where
      two-more : (m : ℕ) → 2 ^ (m + 1) ≡ 2 ^ m + 2 ^ m
      two-more m = ap (λ (k : ℕ). 2 ^ k) (let q : m + 1 ≡ suc m = omega arith in q) ∙ two-pow-succ m

pub bounds-told : (first : ℕ) (x : Slotted) (t u : Taking) (w v : List ℕ) (n : ℕ) → (u, v) ≡ take_one first x (t, w) → InBounds t n → InBounds u (n + 1)
bounds-told first x t u w v n e b = subst (λ (y : Taking × List ℕ). InBounds y.0 (n + 1)) (sym e) (bounds-one first x t w n b)

by-room : (P : ℕ → Type 0) (a b k : ℕ) → k ≡ min a b → P a → (b ≤ a → P b) → P k
by-room P a b k e p q =
    test (leb a b) (λ t. let h : a ≡ k = omega (arith, e, leb-true a b t) in subst P h p) (λ t. let h : b ≡ k = omega (arith, e, leb-false a b t) in subst P h (q (omega (arith, leb-false a b t))))

-- ---- a turn of the loop over the frames

module _ (first : ℕ) (bytes sizes slots : List ℕ) (at i : ℕ) where
  -- the frames from the i-th on, which begin at `at`
  abbrev pub rest : List Slotted
  rest = slotted (drop at bytes) (drop i sizes) (drop i slots)

  module _ (h : i < min (length sizes) (length slots)) where
    slotted-more : rest ≡ record { slot = get_or slots i 0; frame = take (get_or sizes i 0) (drop at bytes) } ∷ slotted (drop (get_or sizes i 0) (drop at bytes)) (drop (i + 1) sizes) (drop (i + 1) slots)
    unfolding slotted
    slotted-more = ap₂ (slotted (drop at bytes)) (one sizes (omega (arith, h))) (one slots (omega (arith, h)))
      where
        one : (l : List ℕ) → i < length l → drop i l ≡ get_or l i 0 ∷ drop (i + 1) l
        one l k = drop-cons l i 0 k ∙ ap (λ (j : ℕ). get_or l i 0 ∷ drop j l) (sym (add-one i))

    pub turn : (end : ℕ) (y z : Taking × List ℕ) → end ≡ min (at + get_or sizes i 0) (length bytes) → at ≤ length bytes
        → z ≡ take_one first (record { slot = get_or slots i 0; frame = take (end - at) (drop at bytes) }) y
        → all_taken first (slotted (drop end bytes) (drop (i + 1) sizes) (drop (i + 1) slots)) z ≡ all_taken first rest y
    unfolding all_taken
    turn end y z e l k =
        let s = get_or slots i 0 in
        ap₂ (λ (bs : List ℕ) (q : Taking × List ℕ). all_taken first (slotted bs (drop (i + 1) sizes) (drop (i + 1) slots)) q)
        (sym (gone (get_or sizes i 0) e l)) (k ∙ ap (λ (f : List ℕ). take_one first (record { slot = s; frame = f }) y) (same (get_or sizes i 0) e l))
        ∙ ap (λ (xs : List Slotted). all_taken first xs y) (sym slotted-more)
      where
        gone : (n : ℕ) → end ≡ min (at + n) (length bytes) → at ≤ length bytes → drop n (drop at bytes) ≡ drop end bytes
        gone n e l = drop-drop n at bytes ∙ by-room (λ (k : ℕ). drop (at + n) bytes ≡ drop k bytes) (at + n) (length bytes) end e refl (λ q. drop_of_length-le bytes q ∙ sym (drop-length bytes))

        same : (n : ℕ) → end ≡ min (at + n) (length bytes) → at ≤ length bytes → take (end - at) (drop at bytes) ≡ take n (drop at bytes)
        same n e l =
            by-room (λ (k : ℕ). take (k - at) (drop at bytes) ≡ take n (drop at bytes)) (at + n) (length bytes) end e
            (ap (λ (k : ℕ). take k (drop at bytes)) (let q : at + n - at ≡ n = omega arith in q))
            (λ q. take_all (length bytes - at) (drop at bytes) (omega (arith, length-drop at bytes)) ∙ sym (take_all n (drop at bytes) (omega (arith, length-drop at bytes, q))))

  pub turn_end : (y : Taking × List ℕ) → min (length sizes) (length slots) ≤ i → all_taken first rest y ≡ y
  unfolding all_taken slotted
  turn_end y h = ap (λ (xs : List Slotted). all_taken first xs y) (none (drop at bytes) (drop i sizes) (drop i slots) (omega (arith, h, length-drop i sizes, length-drop i slots)))
    where
      none : (bs zs ss : List ℕ) → min (length zs) (length ss) ≤ 0 → slotted bs zs ss ≡ []
      none bs [] ss k = refl
      none bs (z ∷ zs) [] k = refl
      none bs (z ∷ zs) (s ∷ ss) k = absurd (omega (arith, k))

pub bounds-begun : InBounds none_taken 0
bounds-begun = record { few = omega arith; small = omega arith; wrong = omega arith; beyond = omega arith }

pub bounds-weak : (t : Taking) (n m : ℕ) → n ≤ m → InBounds t n → InBounds t m
bounds-weak t n m h b = record { few = b.few; small = b.small; wrong = omega (arith, h, b.wrong); beyond = omega (arith, h, b.beyond) }
