-- `bench_area::vanitycrow_remove` meets its contract.
use Rattle.area.specs.Removal.{Hashed}
use Rattle.area.specs.declared.removal.Kept.{Kept}
use Rattle.area.proofs.removal.Laws.{hashed-all}
use Prim.Native.Nat.{ℕ}
use mathlib.Core.Path.{sym, subst, ap}
use mathlib.Core.List.{List}
use lib.ListN.{length-replicate}
use Rattle.bench_area.proofs.vanitycrow_remove.Goals as goal

pub remove_pieces-k-requires : goal.remove_pieces-k-requires
remove_pieces-k-requires c =
    let d = c in
    let s = d in
    let m = subst (λ (x : List ℕ). Hashed x s.args.gone.now) (sym d.hash.ensures) (hashed-all _ s.args.gone.now (length-replicate {A = ℕ} 2048 0)) in
    (s.requires.0, s.requires.1, s.requires.2, s.requires.3, m)

pub returns : goal.returns
returns c = let e = c.remove_pieces-k.ensures in (ap (λ (x : Kept × List ℕ). x.0.rows) e, ap (λ (x : Kept × List ℕ). x.1) e)
