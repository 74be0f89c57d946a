-- `listed::air_line`: each line by its number. Assumes nothing.
use mathlib.Core.Path.{◌≡◌, sym, ap}
use native.Mathlib.Omega.{arith}
use Rattle.profile_table.specs.ProfileLines.{line_at, lines}
use Rattle.profile_table.proofs.Lines.{arm}
use Rattle.profile_table.proofs.listed.air_line.Goals as goal

pub returns-in-17 : goal.returns-in-17
unfolding line_at lines
returns-in-17 c = arm _ c.args.k _ (line_at 17) _ _
    (ap line_at (sym c.in-17.is)) c.values.ensures

pub returns-in-18 : goal.returns-in-18
unfolding line_at lines
returns-in-18 c = arm _ c.args.k _ (line_at 18) _ _
    (ap line_at (sym c.in-18.is)) c.values-in-18.ensures

pub returns-in-19 : goal.returns-in-19
unfolding line_at lines
returns-in-19 c = arm _ c.args.k _ (line_at 19) _ _
    (ap line_at (sym c.in-19.is)) c.values-in-19.ensures

pub returns-in_default : goal.returns-in_default
unfolding line_at lines
returns-in_default c = let e : c.args.k ≡ 20 = omega arith in arm _
    c.args.k _ (line_at 20) _ _ (ap line_at (sym e)) c.values-in_default.ensures
