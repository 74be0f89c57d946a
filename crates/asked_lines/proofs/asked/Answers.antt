-- `asked`: what is lent is put back into the work area. Assumes nothing.
use native.Mathlib.Omega.{arith}
use Rattle.asked_lines.specs.AskedLines.{asked_of}
use Rattle.asked_lines.proofs.Laws.{put_first}
use Rattle.asked_lines.proofs.asked.Goals as goal

pub returns : goal.returns
unfolding asked_of
returns c =
    let l = c.least-k.ensures in
    rw (← l.a_value)
    (put_first _ _ l.upper_bound (omega (arith, c.asked_out.auto.area, l.value)) c.asked_out.ensures)
