-- `listed::db_line`: each line by its number. Assumes nothing.
use mathlib.Core.Path.{◌≡◌, sym, ap}
use native.Mathlib.Omega.{arith}
use Rattle.profile_table.specs.ProfileLines.{line_at, lines}
use Rattle.profile_table.proofs.Lines.{arm}
use Rattle.profile_table.proofs.listed.db_line.Goals as goal

pub returns-in-25 : goal.returns-in-25
unfolding line_at lines
returns-in-25 c = arm _ c.args.k _ (line_at 25) _ _
    (ap line_at (sym c.in-25.is)) c.values.ensures

pub returns-in-26 : goal.returns-in-26
unfolding line_at lines
returns-in-26 c = arm _ c.args.k _ (line_at 26) _ _
    (ap line_at (sym c.in-26.is)) c.values-in-26.ensures

pub returns-in-27 : goal.returns-in-27
unfolding line_at lines
returns-in-27 c = arm _ c.args.k _ (line_at 27) _ _
    (ap line_at (sym c.in-27.is)) c.values-in-27.ensures

pub returns-in_default : goal.returns-in_default
unfolding line_at lines
returns-in_default c = let e : c.args.k ≡ 28 = omega arith in arm _
    c.args.k _ (line_at 28) _ _ (ap line_at (sym e)) c.values-in_default.ensures
