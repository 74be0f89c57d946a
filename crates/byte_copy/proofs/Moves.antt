-- Writes to a part of a slice, and moves within one, as runs of stores. Assumes nothing.
use mathlib.Core.Path.{◌≡◌, sym, ap, ◌∙◌}
use mathlib.Core.List.{List, ◌++◌, append_assoc}
use Prim.Native.Nat.{ℕ, ◌+◌, ◌≤◌}
use native.Mathlib.Omega.{arith}
use lib.ListN.{length, take, drop}
use lib.Seq.{paste, length-take-le, take-length}
use borrow.Rule.Slice.PartMut.{put_mid}
use Rattle.std.proofs.lemmas.Slice.{put_mid-paste}
use Rattle.laws.specs.Bytes.{overwrite}
use Rattle.laws.proofs.Bytes.{over-eq}

-- a copy of n elements of s
pub over-paste : (l : List ℕ) (at : ℕ) (s : List ℕ) (n : ℕ) → n ≤ length s → at + n ≤ length l → paste l at s n ≡ overwrite l at (take n s)
over-paste l at s n h k =
    let m : length (take n s) ≡ n = length-take-le n s h in
    append_assoc (take at l) (take n s) (drop (at + n) l)
    ∙ ap (λ (j : ℕ). take at l ++ (take n s ++ drop (at + j) l)) (sym m) ∙ sym (over-eq l at (take n s) (omega (arith, m)))

-- a write of s to the k elements from `at` on
pub over-put : (l : List ℕ) (at k : ℕ) (ys s : List ℕ) → ys ≡ s → length s ≡ k → at + length s ≤ length l → put_mid at k l ys ≡ overwrite l at s
over-put l at k ys s e m h =
    put_mid-paste at k l ys s (length s) e m (omega arith) ∙ over-paste l at s (length s) (omega arith) h ∙ ap (overwrite l at) (take-length s)
