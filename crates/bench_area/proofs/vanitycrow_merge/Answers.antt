-- `bench_area::vanitycrow_merge` meets its contract.
use Rattle.area.specs.Removal.{Hashed}
use Rattle.area.proofs.removal.Laws.{hashed-all}
use Prim.Native.Nat.{ℕ}
use mathlib.Core.Path.{sym, subst}
use mathlib.Core.List.{List}
use lib.ListN.{length-replicate}
use Rattle.bench_area.proofs.vanitycrow_merge.Goals as goal

pub merge_table-requires : goal.merge_table-requires
merge_table-requires c =
    let d = c in
    let s = d in
    let m = subst (λ (x : List ℕ). Hashed x s.args.held.now) (sym d.hash.ensures) (hashed-all _ s.args.held.now (length-replicate {A = ℕ} 2048 0)) in
    (s.requires.0, s.requires.1, m)
