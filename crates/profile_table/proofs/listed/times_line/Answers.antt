-- `listed::times_line`: each line by its number. Assumes nothing.
use mathlib.Core.Path.{◌≡◌, sym, ap}
use native.Mathlib.Omega.{arith}
use Rattle.profile_table.specs.ProfileLines.{line_at, lines}
use Rattle.profile_table.proofs.Lines.{arm}
use Rattle.profile_table.proofs.listed.times_line.Goals as goal

pub returns-in-21 : goal.returns-in-21
unfolding line_at lines
returns-in-21 c = arm _ c.args.k _ (line_at 21) _ _
    (ap line_at (sym c.in-21.is)) c.values.ensures

pub returns-in-22 : goal.returns-in-22
unfolding line_at lines
returns-in-22 c = arm _ c.args.k _ (line_at 22) _ _
    (ap line_at (sym c.in-22.is)) c.values-in-22.ensures

pub returns-in-23 : goal.returns-in-23
unfolding line_at lines
returns-in-23 c = arm _ c.args.k _ (line_at 23) _ _
    (ap line_at (sym c.in-23.is)) c.values-in-23.ensures

pub returns-in_default : goal.returns-in_default
unfolding line_at lines
returns-in_default c = let e : c.args.k ≡ 24 = omega arith in arm _
    c.args.k _ (line_at 24) _ _ (ap line_at (sym e)) c.values-in_default.ensures
