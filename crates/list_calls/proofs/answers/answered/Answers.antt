-- `answered`: by whether the line is right. Assumes nothing.
use mathlib.Core.Path.{ap}
use mathlib.Core.List.{List}
use Prim.Native.Nat.{ℕ}
use Rattle.transcript.specs.Answers.{answer_line}
use Rattle.text.proofs.Laws.{appends, told}
use Rattle.list_calls.specs.Answers.{answered}
use Rattle.list_calls.proofs.answers.answered.Goals as goal

pub returns-then-not-ok : goal.returns-then-not-ok
unfolding answered
returns-then-not-ok c = rw c.if-not-ok.true

pub returns : goal.returns
unfolding answered
returns c =
    let d = c in
    let a = d.args in
    rw d.if-not-ok.false
    (told (appends c.answer.ensures) (ap (λ (w : List ℕ). answer_line w a.refusal) d.least-to.ensures.a_value))
