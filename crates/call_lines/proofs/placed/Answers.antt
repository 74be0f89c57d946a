-- `placed`: by whether the place is one of the sixteen. Assumes nothing.
use mathlib.Core.Path.{refl}
use borrow.Author.Tests.{lt-ltb, le-ltb}
use Rattle.laws.proofs.Picks.{cond_yes, cond_no}
use Rattle.call_lines.specs.CallLines.{placed}
use Rattle.call_lines.proofs.placed.Goals as goal

pub returns-then-i-lt-MAX_RECEIVED : goal.returns-then-i-lt-MAX_RECEIVED
unfolding placed
returns-then-i-lt-MAX_RECEIVED c = cond_yes _ _ _ _ (lt-ltb _ _ c.if-i-lt-MAX_RECEIVED.true) refl

pub returns-else-i-lt-MAX_RECEIVED : goal.returns-else-i-lt-MAX_RECEIVED
unfolding placed
returns-else-i-lt-MAX_RECEIVED c = cond_no _ _ _ _ (le-ltb _ _ c.if-i-lt-MAX_RECEIVED.false) refl
