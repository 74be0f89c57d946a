-- `area::removal::contains_hashed` meets its contract.
use Rattle.area.proofs.removal.Laws.{unhashed}
use mathlib.Core.Path.{sym}
use Rattle.area.proofs.removal.contains_hashed.Goals as goal

pub returns-then-hashes-k-eq0 : goal.returns-then-hashes-k-eq0
returns-then-hashes-k-eq0 c =
    let d = c in
    let s = d in
    sym (unhashed s.args.hashes.now s.args.offs.now s.args.off d.hash_place-k.result d.hash_place-k.ensures.0 s.requires c.if-hashes-k-eq0.true)
