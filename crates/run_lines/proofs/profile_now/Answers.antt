-- `profile_now`: by whether a file stands for the lines; so much of the file as there is. Assumes nothing.
use mathlib.Core.Path.{ap}
use mathlib.Core.Bool.{Bool}
use Prim.Native.Nat.{ℕ}
use borrow.Author.Tests.{eq-eqb, ne_eqb}
use Rattle.laws.proofs.Picks.{cond_no, cond_yes}
use Rattle.config.specs.declared.Profile.{Profile}
use Rattle.run_lines.specs.RunLines.{profile_now}
use Rattle.run_lines.proofs.profile_now.Goals as goal

pub profile_of-p-requires : goal.profile_of-p-requires
profile_of-p-requires c = tt

pub returns-then-run-eq0 : goal.returns-then-run-eq0
unfolding profile_now
returns-then-run-eq0 c =
    cond_yes _ _ _ _ (eq-eqb _ _ c.if-run-eq0.true)
    c.profile_of-p.ensures

pub least-n-requires : goal.least-n-requires
least-n-requires c = tt

pub read-q-requires : goal.read-q-requires
read-q-requires c = tt

pub returns : goal.returns
unfolding profile_now
returns c =
    let d = c in
    let e = d in
    let f = e in
    cond_no _ _ _ _ (ne_eqb _ _ e.if-run-eq0.false)
    (rw (← f.profile_of-p.ensures, ← d.least-n.ensures.a_value) (ap (λ (m : ℕ × Profile × Bool). m.1) c.read-q.ensures))
