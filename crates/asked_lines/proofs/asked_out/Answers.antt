-- `asked_out`: what is lent is put back into the output. Assumes nothing.
use native.Mathlib.Omega.{arith}
use Rattle.asked_lines.specs.AskedLines.{asked_out}
use Rattle.asked_lines.proofs.Laws.{put_second}
use Rattle.asked_lines.proofs.asked_out.Goals as goal

pub returns : goal.returns
unfolding asked_out
returns c =
    let l = c.least-k.ensures in
    rw (← l.a_value)
    (put_second _ _ l.upper_bound (omega (arith, c.say.auto.out, l.value)) c.say.ensures)
