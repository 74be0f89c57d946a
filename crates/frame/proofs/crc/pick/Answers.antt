-- `frame::crc::pick` meets its contract: an entry of the tables.
use mathlib.Core.Path.{ap, ◌∙◌}
use mathlib.Core.List.{List}
use Prim.Native.Nat.{ℕ, ◌+◌, ◌*◌, ◌%◌, ◌<◌}
use native.Mathlib.Omega.{arith}
use lib.ListN.{get_or}
use Rattle.frame.proofs.crc.Laws.{entry}
use Rattle.frame.proofs.crc.pick.Goals as goal

pub returns : goal.returns
returns c =
    let s = c in
    let k = s.args.k in
    let b = s.args.x % 16 in
    let h : b < 16 = omega arith in
    ap (λ (l : List ℕ). get_or l (16 * k + b) 0) s.requires.0 ∙ entry k b s.requires.1 h
