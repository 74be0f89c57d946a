-- `showed`: what is lent is put back into the output. Assumes nothing.
use native.Mathlib.Omega.{arith}
use Rattle.asked_lines.specs.AskedLines.{showed_of}
use Rattle.asked_lines.proofs.Laws.{put_first}
use Rattle.asked_lines.proofs.showed.Goals as goal

pub returns : goal.returns
unfolding showed_of
returns c =
    let l = c.least-k.ensures in
    rw (← l.a_value)
    (put_first _ _ l.upper_bound (omega (arith, c.shown.auto.out, l.value)) c.shown.ensures)
