-- `adif::check` meets its contract. Assumes nothing.
use native.Mathlib.Omega.{arith}
use borrow.Author.Tests.{not-true, not-false}
use Rattle.laws.proofs.Picks.{calls}
use Rattle.std.proofs.lemmas.Bool.Decides.{nat_tests}
use Rattle.adif.specs.Adif.{refusal_of}
use Rattle.adif.proofs.check.Goals as goal

pub returns-then-not-sign_ok : goal.returns-then-not-sign_ok
unfolding refusal_of
returns-then-not-sign_ok c = search (calls, not-true, not-false)

pub returns-then-on-gt-LAST_SECOND : goal.returns-then-on-gt-LAST_SECOND
unfolding refusal_of
returns-then-on-gt-LAST_SECOND c = grind (arith, nat_tests, not-true, not-false)

pub returns-then-room-lt256 : goal.returns-then-room-lt256
unfolding refusal_of
returns-then-room-lt256 c = search (calls, not-true, not-false)

pub returns : goal.returns
unfolding refusal_of
returns c = search (calls, not-true, not-false)
