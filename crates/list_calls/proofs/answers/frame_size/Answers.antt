-- `frame_size`: by the level. Assumes nothing.
use mathlib.Core.Path.{refl}
use borrow.Author.Tests.{lt-ltb, le-ltb}
use Rattle.laws.proofs.Picks.{cond_yes, cond_no}
use Rattle.list_calls.specs.Answers.{frame_size}
use Rattle.list_calls.proofs.answers.frame_size.Goals as goal

pub returns-then-level-lt17 : goal.returns-then-level-lt17
unfolding frame_size
returns-then-level-lt17 c = cond_yes _ _ _ _ (lt-ltb _ _ c.if-level-lt17.true) c.frame_bytes.ensures

pub returns : goal.returns
unfolding frame_size
returns c = cond_no _ _ _ _ (le-ltb _ _ c.if-level-lt17.false) refl
