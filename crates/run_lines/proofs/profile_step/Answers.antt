-- `profile_step`: by whether the line is right, and by whether it is the last. Assumes nothing.
use mathlib.Core.Path.{refl}
use borrow.Author.Tests.{le-leb, lt-leb}
use Rattle.laws.proofs.Picks.{cond_no, cond_yes, told-no, told-yes}
use Rattle.run_lines.specs.RunLines.{next_line}
use Rattle.run_lines.proofs.Laws.{pair}
use Rattle.run_lines.proofs.profile_step.Goals as goal

pub profile_line-requires : goal.profile_line-requires
profile_line-requires c = tt

pub failed-requires : goal.failed-requires
failed-requires c = tt

pub returns-then-not-profile_line : goal.returns-then-not-profile_line
unfolding next_line
returns-then-not-profile_line c =
    cond_no _ _ _ _ (told-no _ _ c.profile_line.ensures.0 c.if-not-profile_line.true)
    (pair c.failed.ensures (pair refl c.profile_line.ensures.1))

pub start-requires : goal.start-requires
start-requires c = tt

pub returns-then-k : goal.returns-then-k
unfolding next_line
returns-then-k c =
    let d = c in
    let e = d in
    let f = e in
    cond_yes _ _ _ _ (told-yes _ _ f.profile_line.ensures.0 e.if-not-profile_line.false)
    (cond_yes _ _ _ _ (le-leb _ _ d.if-k.true)
    (pair c.start.ensures.value (pair c.start.ensures.area_after f.profile_line.ensures.1)))

pub returns : goal.returns
unfolding next_line
returns c =
    cond_yes _ _ _ _ (told-yes _ _ c.profile_line.ensures.0 c.if-not-profile_line.false)
    (cond_no _ _ _ _ (lt-leb _ _ c.if-k.false)
    (pair refl (pair refl c.profile_line.ensures.1)))
