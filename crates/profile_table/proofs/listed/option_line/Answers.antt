-- `listed::option_line`: each line by its number. Assumes nothing.
use mathlib.Core.Path.{sym, ap}
use native.Mathlib.Omega.{arith}
use Rattle.profile_table.specs.ProfileLines.{line_at, lines}
use Rattle.profile_table.proofs.Lines.{arm, on_line}
use Rattle.profile_table.proofs.listed.option_line.Goals as goal

pub returns-in-29 : goal.returns-in-29
unfolding line_at lines
returns-in-29 c = arm _ c.args.k _ (line_at 29) _ _
    (ap line_at (sym c.in-29.is)) c.values.ensures

pub returns-in-30 : goal.returns-in-30
unfolding line_at lines
returns-in-30 c = arm _ c.args.k _ (line_at 30) _ _
    (ap line_at (sym c.in-30.is)) c.values-in-30.ensures

pub returns-in-31 : goal.returns-in-31
unfolding line_at lines
returns-in-31 c = arm _ c.args.k _ (line_at 31) _ _
    (ap line_at (sym c.in-31.is)) c.values-in-31.ensures

pub returns-in_default : goal.returns-in_default
returns-in_default c = arm _ c.args.k _ _ _ _
    (on_line c.args.k
    (omega arith)) c.values-in_default.ensures
