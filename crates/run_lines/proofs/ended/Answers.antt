-- `ended`: by whether there was a sender. Assumes nothing.
use mathlib.Core.Path.{refl}
use borrow.Author.Tests.{eq-eqb, ne_eqb}
use Rattle.laws.proofs.Picks.{cond_no, cond_yes}
use Rattle.run_lines.specs.RunLines.{ended}
use Rattle.run_lines.proofs.ended.Goals as goal

pub end-requires : goal.end-requires
end-requires c = tt

pub returns-then-run-eq-LINES : goal.returns-then-run-eq-LINES
unfolding ended
returns-then-run-eq-LINES c =
    let d = c in
    cond_yes _ _ _ _ (eq-eqb _ _ d.if-run-eq-LINES.true)
    c.end.ensures

pub returns : goal.returns
unfolding ended
returns c = cond_no _ _ _ _ (ne_eqb _ _ c.if-run-eq-LINES.false) refl
