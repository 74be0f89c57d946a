-- `settle::settle_burst` meets its contract.
use lib.ListN.{length, take}
use lib.Seq.{length-take-le}
use Rattle.area.specs.Table.{rows_from, total}
use Rattle.area.specs.Removal.{removed_pieces}
use Rattle.area.specs.declared.removal.Kept.{Kept}
use Rattle.area.proofs.removal.Laws.{removed-facts, hashed-by}
use Rattle.pieces.proofs.Settle.{kept-total}
use Rattle.settle.specs.Settle.{acked_in, offsets_of}
use Rattle.settle.specs.declared.Offsets.{Offsets}
use Rattle.settle.proofs.Laws.{acked-few, offsets-list, offsets-fit, settled_is}
use Prim.Native.Nat.{ℕ, ◌≤◌}
use mathlib.Core.Path.{◌≡◌, refl, sym}
use mathlib.Core.List.{List}
use native.Mathlib.Omega.{arith}
use Rattle.limits.specs.Limits.{max_slots}
use Rattle.settle.proofs.settle_burst.Goals as goal

-- of the offsets that are acknowledged
few : (b m : ℕ) (offs : List ℕ) → m ≤ length offs → m ≤ max_slots → length (acked_in b (take m offs)) ≤ max_slots
few b m offs h l = omega (arith, acked-few b (take m offs), length-take-le m offs h)

gone : (b m : ℕ) (offs : List ℕ) (g : Offsets) → m ≤ length offs → m ≤ max_slots → g ≡ offsets_of (acked_in b (take m offs)) → take g.n g.off ≡ acked_in b (take m offs)
gone b m offs g h l e = offsets-list (acked_in b (take m offs)) g (few b m offs h l) e

fit : (b m : ℕ) (offs : List ℕ) (g : Offsets) → m ≤ length offs → m ≤ max_slots → g ≡ offsets_of (acked_in b (take m offs)) → g.n ≤ length g.off
fit b m offs g h l e = offsets-fit (acked_in b (take m offs)) g (few b m offs h l) e

pub remove_pieces-left-requires : goal.remove_pieces-left-requires
remove_pieces-left-requires c = (c.requires.pieces, c.requires.area, omega (arith, c.requires.flies, c.requires.waits), omega (arith, c.requires.flying), hashed-by _ _ _ c.hash.ensures refl)

pub slice_bounds-gone-end : goal.slice_bounds-gone-end
slice_bounds-gone-end c = fit c.args.bitmap c.args.s.last_burst.n c.args.s.last_burst.off _ (omega arith) (omega arith) c.acked-g.ensures

pub slice_bounds-hash-end-2 : goal.slice_bounds-hash-end-2
slice_bounds-hash-end-2 c = sym (length-take-le _ _ (fit c.args.bitmap c.args.s.last_burst.n c.args.s.last_burst.off _ (omega arith) (omega arith) c.acked-g.ensures))

pub slice_bounds-gone-end-2 : goal.slice_bounds-gone-end-2
slice_bounds-gone-end-2 c = fit c.args.bitmap c.args.s.last_burst.n c.args.s.last_burst.off _ (omega arith) (omega arith) c.acked-g.ensures

pub slice_bounds-remove_pieces-end-2 : goal.slice_bounds-remove_pieces-end-2
slice_bounds-remove_pieces-end-2 c = sym (length-take-le _ _ (fit c.args.bitmap c.args.s.last_burst.n c.args.s.last_burst.off _ (omega arith) (omega arith) c.acked-g.ensures))

pub new_held-held-requires : goal.new_held-held-requires
new_held-held-requires c = (c.requires.held, c.requires.rest, c.requires.out)

-- what is left is no more than what flew
less : (out : List ℕ) (n used : ℕ) (a : List ℕ) (k : Kept) (b : List ℕ) → (k, b) ≡ removed_pieces out n used a → k.bytes ≤ total (rows_from a 0 n)
less out n used a k b e = omega (arith, (removed-facts out n used a k b e).1, kept-total out (rows_from a 0 n))

pub overflow_cast-bytes : goal.overflow_cast-bytes
overflow_cast-bytes c = omega (arith, less _ _ _ _ _ _ c.remove_pieces-left.ensures, c.requires.flying, c.requires.flies)

pub overflow_sub-counts : goal.overflow_sub-counts
overflow_sub-counts c = omega (arith, less _ _ _ _ _ _ c.remove_pieces-left.ensures, c.requires.flying)

pub overflow_add-counts : goal.overflow_add-counts
overflow_add-counts c = omega (arith, less _ _ _ _ _ _ c.remove_pieces-left.ensures, c.requires.flying, c.requires.acked)

pub shape_of-a : goal.shape_of-a
shape_of-a c = c.remove_pieces-left.auto.a

pub returns : goal.returns
returns c = settled_is c.args.bitmap c.args.top c.args.keep c.args.s c.args.a.now _ _ _ _ (gone c.args.bitmap c.args.s.last_burst.n c.args.s.last_burst.off _ (omega arith) (omega arith) c.acked-g.ensures) c.remove_pieces-left.ensures c.new_held-held.ensures
