-- The turn of the loop over the slots. Assumes nothing.
use mathlib.Core.Path.{◌≡◌, sym, ap, ◌∙◌}
use mathlib.Core.List.{List, [], ◌∷◌, map}
use Prim.Native.Nat.{ℕ, suc, ◌+◌, ◌-◌, ◌≤◌, ◌<◌}
use native.Mathlib.Omega.{arith}
use lib.ListN.{set}
use Rattle.laws.specs.Bytes.{overwrite}
use Rattle.laws.proofs.Bytes.{set-over, over-cat, over-nil}
use Rattle.frames.specs.Slots.{nth_slot, slots_from}
use Rattle.frames.specs.declared.slots.Slot.{Slot}
use Rattle.frames.specs.declared.slots.Slots.{Slots}

-- a value of each slot, stored one after the other
module _ (f : Slot → ℕ) (s : Slots) (n i : ℕ) (l : List ℕ) where
  pub stored-turn : (v : ℕ) → i < n → v ≡ f (nth_slot s i)
      → overwrite l i (map f (slots_from s i (n - i))) ≡ overwrite (set l i v) (i + 1) (map f (slots_from s (i + 1) (n - (i + 1))))
  stored-turn v h e =
      ap (λ (k : ℕ). overwrite l i (map f (slots_from s i k))) (let t : n - i ≡ suc (n - (i + 1)) = omega arith in t)
      ∙ sym (over-cat l i (f (nth_slot s i) ∷ []) (map f (slots_from s (i + 1) (n - (i + 1)))))
      ∙ ap (λ (x : List ℕ). overwrite x (i + 1) (map f (slots_from s (i + 1) (n - (i + 1))))) (sym (set-over l i (f (nth_slot s i))) ∙ ap (set l i) (sym e))

  pub stored-end : n ≤ i → overwrite l i (map f (slots_from s i (n - i))) ≡ l
  stored-end h = ap (λ (k : ℕ). overwrite l i (map f (slots_from s i k))) (let t : n - i ≡ 0 = omega arith in t) ∙ over-nil l i
