-- `profile_part`: a remark, a line within a profile, `profile`, or none that there is: by the three tests in turn. Assumes nothing.
use mathlib.Core.Path.{ap, refl}
use borrow.Author.Tests.{le-ltb, lt-ltb}
use Rattle.laws.proofs.Picks.{cond_no, cond_yes, told-no, told-yes}
use Rattle.run_lines.specs.RunLines.{area_kept, buffer_kept, profile_part}
use Rattle.run_lines.proofs.Laws.{pair}
use Rattle.run_lines.proofs.profile_part.Goals as goal

pub passed_over-requires : goal.passed_over-requires
passed_over-requires c = tt

pub with_todo-requires : goal.with_todo-requires
with_todo-requires c = tt

pub returns-then-passed_over : goal.returns-then-passed_over
unfolding profile_part
returns-then-passed_over c =
    cond_yes _ _ _ _ (told-yes _ _ c.passed_over.ensures c.if-passed_over.true)
    (pair c.with_todo.ensures refl)

pub profile_step-requires : goal.profile_step-requires
profile_step-requires c = tt

pub returns-then-run-lt-LINES : goal.returns-then-run-lt-LINES
unfolding profile_part
returns-then-run-lt-LINES c =
    let d = c in
    let e = d in
    let f = e in
    cond_no _ _ _ _ (told-no _ _ f.passed_over.ensures e.if-passed_over.false)
    (cond_yes _ _ _ _ (lt-ltb _ _ d.if-run-lt-LINES.true)
    (ap (buffer_kept _) c.profile_step.ensures))

pub word-r-requires : goal.word-r-requires
word-r-requires c = tt

pub done-requires : goal.done-requires
done-requires c = tt

pub begin-requires : goal.begin-requires
begin-requires c = tt

pub returns-then-done : goal.returns-then-done
unfolding profile_part
returns-then-done c =
    let d = c in
    let e = d in
    let f = e in
    let g = f in
    let h = g in
    let k = h in
    rw (← f.word-r.ensures)
    (cond_no _ _ _ _ (told-no _ _ k.passed_over.ensures h.if-passed_over.false)
    (cond_no _ _ _ _ (le-ltb _ _ g.if-run-lt-LINES.false)
    (cond_yes _ _ _ _ (told-yes _ _ e.done.ensures d.if-done.true)
    (ap (area_kept _ _) c.begin.ensures))))

pub failed-requires : goal.failed-requires
failed-requires c = tt

pub returns : goal.returns
unfolding profile_part
returns c =
    let d = c in
    let e = d in
    let f = e in
    let g = f in
    rw (← d.word-r.ensures)
    (cond_no _ _ _ _ (told-no _ _ g.passed_over.ensures f.if-passed_over.false)
    (cond_no _ _ _ _ (le-ltb _ _ e.if-run-lt-LINES.false)
    (cond_no _ _ _ _ (told-no _ _ c.done.ensures c.if-done.false)
    (pair c.failed.ensures refl))))
