-- `sender::find` meets its contract.
use mathlib.Core.Bool.{false}
use mathlib.Core.Path.{ap, ap₂}
use Rattle.laws.proofs.Picks.{cond_yes, cond_no}
use Rattle.area.specs.declared.lookup.Found.{Found}
use Rattle.refusals.specs.Verdict.{Verdict}
use Rattle.sender.specs.Calls.{nowhere, find_of}
use Rattle.verdicts.proofs.Passed.{asked-passed, standing-three, sound-rows}
use Rattle.sender.proofs.Numbers.{find-numbered}
use Rattle.sender.proofs.find.Goals as goal

pub returns-then-is_err : goal.returns-then-is_err
unfolding find_of
returns-then-is_err c =
    let e = c.standing-v.ensures in
    find-numbered (record { verdict = c.standing-v.result; found = nowhere }) _ _
    (cond_no _ _ _ _ (asked-passed _ _ _ _ e c.is_err.ensures.value c.if-is_err.true)
    (ap (λ (v : Verdict). record { verdict = v; found = nowhere }) e))
    c.number-refusal.ensures

pub find-f-requires : goal.find-f-requires
find-f-requires c =
    let r = sound-rows c.args.p c.args.t.sender c.args.a.now
    (standing-three c.args.p c.args.t c.args.a.now false
    (asked-passed _ _ _ _ c.standing-v.ensures c.is_err.ensures.value c.if-is_err.false)).2 in (r.0, r.1)

pub returns : goal.returns
unfolding find_of
returns c =
    find-numbered (record { verdict = c.standing-v.result; found = c.find-f.result }) _ _
    (cond_yes _ _ _ _ (asked-passed _ _ _ _ c.standing-v.ensures c.is_err.ensures.value c.if-is_err.false)
    (ap₂ (λ (v : Verdict) (f : Found). record { verdict = v; found = f }) c.standing-v.ensures c.find-f.ensures))
    c.number-refusal.ensures
