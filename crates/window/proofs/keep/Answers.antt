-- `keep` meets its contract: a turn keeps one byte more, and what is left to keep comes to the same.
use Rattle.window.proofs.Turns.{turn-stays, turn-puts, turn_last}
use borrow.Author.Tests.{lt-leb, le-leb}
use Rattle.window.proofs.keep.Goals as goal
use Rattle.window.proofs.keep.Goals.{then-w-d-lt256, else-w-d-lt256}

pub loop-j-preserved : goal.loop-j-preserved
loop-j-preserved c =
    elim c.if-w-d-lt256.branch [
      | then-w-d-lt256 w ↦ rw (w.w-is, w.from.ensures) (turn-puts _ _ _ _ _ c.loop-j-test.true c.loop-j.invariant (lt-leb _ _ w.if-w-d-lt256.true))
      | else-w-d-lt256 w ↦ rw w.w-is (turn-stays _ _ _ _ _ c.loop-j-test.true c.loop-j.invariant (le-leb _ _ w.if-w-d-lt256.false))
    ]

pub returns : goal.returns
returns c = turn_last _ _ _ _ _ c.loop-j-test.false c.loop-j.invariant
