-- `has_room`: without a sum that wraps. Assumes nothing.
use mathlib.Core.Path.{sym}
use Prim.Native.Nat.{◌+◌}
use native.Mathlib.Omega.{arith}
use borrow.Author.Tests.{lt-leb}
use Rattle.box_calls.proofs.Laws.{room-left}
use Rattle.box_calls.proofs.has_room.Goals as goal

pub returns-then-most-used : goal.returns-then-most-used
returns-then-most-used c = let a = c.args in sym (lt-leb (a.used + a.k) a.most (omega (arith, c.if-most-used.true)))

pub returns : goal.returns
returns c = let a = c.args in room-left a.used a.k a.most (omega (arith, c.if-most-used.false))
