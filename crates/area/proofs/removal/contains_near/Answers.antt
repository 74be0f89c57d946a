-- `area::removal::contains_near` meets its contract.
use Rattle.area.proofs.removal.Laws.{listed_at}
use mathlib.Core.Path.{sym}
use Rattle.area.proofs.removal.contains_near.Goals as goal

pub returns-then-offs-g : goal.returns-then-offs-g
returns-then-offs-g c =
    let t = c in
    let s = t in
    sym (listed_at s.args.off s.args.offs.now s.args.g t.if-g-offs.true c.if-offs-g.true)
