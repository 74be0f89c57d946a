use Rattle.reachable.proofs.Refusals.{range-good, range-bad, range-power, range-top}
use Rattle.reachable.proofs.check_range.Goals as goal
use Rattle.reachable.proofs.check_range.Goals.{then-not-marks_ok-via-then-not-marks_ok}
use Rattle.reachable.proofs.check_range.Goals.{then-not-marks_ok-via-else-not-marks_ok+then-power-gt2}
use Rattle.reachable.proofs.check_range.Goals.{then-not-marks_ok-via-else-not-marks_ok+else-power-gt2+then-top-gt16}

pub returns-then-not-marks_ok : goal.returns-then-not-marks_ok
returns-then-not-marks_ok c =
    elim c.then-not-marks_ok.branch [
      | then-not-marks_ok-via-then-not-marks_ok w ↦ range-bad _ _ _ _ _ _ c.marks_ok.ensures w.if-not-marks_ok.true
      | then-not-marks_ok-via-else-not-marks_ok+then-power-gt2 w ↦
          range-power _ _ _ _ _ _ c.marks_ok.ensures w.if-not-marks_ok.false w.if-power-gt2.true
      | then-not-marks_ok-via-else-not-marks_ok+else-power-gt2+then-top-gt16 w ↦
          range-top _ _ _ _ _ _ c.marks_ok.ensures w.if-not-marks_ok.false w.if-power-gt2.false w.if-top-gt16.true
    ]

pub returns : goal.returns
returns c =
    range-good _ _ _ _ _ _ c.marks_ok.ensures c.if-not-marks_ok.false _ c.if-power-gt2.false c.if-top-gt16.false c.check_order.ensures
