-- `received` meets its contract.
use mathlib.Core.Path.{◌∙◌}
use Rattle.text.proofs.Laws.{appends, told, ◌⨾◌}
use Rattle.box_lines.proofs.Answers.{line_refused, line-accepted}
use Rattle.box_lines.proofs.received.Goals as goal

pub shape_of-t-then-refusal-ne0 : goal.shape_of-t-then-refusal-ne0
shape_of-t-then-refusal-ne0 c = c.answer.auto.t

pub returns-then-refusal-ne0 : goal.returns-then-refusal-ne0
returns-then-refusal-ne0 c = told (appends c.answer.ensures) (line_refused _ _ _ c.if-refusal-ne0.true)

pub shape_of-t : goal.shape_of-t
shape_of-t c =
    let p7 = c in
    let p6 = p7 in
    let p5 = p6 in
    let p4 = p5 in
    let p3 = p4 in
    let p2 = p3 in
    let p1 = p2 in
    p7.puts.auto.t ∙ p6.hex-n-2.auto.t ∙ p5.number-n-2.auto.t ∙ p4.number-n.auto.t ∙ p3.hex-n.auto.t ∙ p2.puts-n-2.auto.t ∙ p1.puts-n.auto.t

pub returns : goal.returns
returns c =
    let p7 = c in
    let p6 = p7 in
    let p5 = p6 in
    let p4 = p5 in
    let p3 = p4 in
    let p2 = p3 in
    let p1 = p2 in
    told (appends p1.puts-n.ensures ⨾ appends p2.puts-n-2.ensures ⨾ appends p3.hex-n.ensures ⨾ appends p4.number-n.ensures ⨾ appends p5.number-n-2.ensures
    ⨾ appends p6.hex-n-2.ensures ⨾ appends p7.puts.ensures) (line-accepted _ _ _ p1.if-refusal-ne0.false)
