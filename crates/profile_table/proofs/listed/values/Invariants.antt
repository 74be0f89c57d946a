use mathlib.Core.Path.{◌≡◌}
use Rattle.profile_table.specs.ProfileLines.{value_read, Reading}
use Rattle.laws.specs.Steps.{steps}
use Rattle.words.specs.Lines.{begun}
use Rattle.profile_table.proofs.listed.values.Given as goal

abbrev pub invariant-loop-i : goal.invariant-loop-i
invariant-loop-i l =
    (◌≡◌ {A = Reading} (l.q, l.v) (steps (value_read l.line l.kind l.at) l.i (begun l.line l.name, l.initial.v)))
