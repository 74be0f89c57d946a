-- `verdicts::burst_verdict` meets its contract.
use mathlib.Core.Path.{refl}
use borrow.Author.Tests.{lt-ltb, le-ltb}
use Rattle.laws.proofs.Picks.{cond_yes, cond_no}
use Rattle.verdicts.specs.Verdicts.{output_verdict}
use Rattle.verdicts.proofs.Passed.{is-passed}
use Rattle.verdicts.proofs.burst_verdict.Goals as goal

pub returns-then-n-long : goal.returns-then-n-long
unfolding output_verdict
returns-then-n-long c =
    cond_yes _ _ _ _ (is-passed _ _ _ refl c.in_ok-v.was)
    (cond_yes _ _ _ _ (lt-ltb _ _ c.if-n-long.true) refl)

pub returns : goal.returns
unfolding output_verdict
returns c =
    cond_yes _ _ _ _ (is-passed _ _ _ refl c.in_ok-v.was)
    (cond_no _ _ _ _ (le-ltb _ _ c.if-n-long.false) refl)
