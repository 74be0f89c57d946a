-- `as_long` meets its contract.
use mathlib.Core.Path.{◌∙◌}
use Rattle.text.proofs.Laws.{appends, ◌⨾◌}
use Rattle.box_lines.proofs.as_long.Goals as goal

pub shape_of-l : goal.shape_of-l
shape_of-l c =
    let p2 = c in
    let p1 = p2 in
    p2.hex.auto.t ∙ p1.puts-n.auto.t

pub returns : goal.returns
returns c =
    let p2 = c in
    let p1 = p2 in
    (appends p1.puts-n.ensures ⨾ appends p2.hex.ensures).is
