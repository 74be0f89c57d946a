use Rattle.std.proofs.Common.{◌≡◌}
use Rattle.words.specs.Lines.{end_of}
use Rattle.words.proofs.end_from.Given as goal

abbrev pub invariant-loop-e : goal.invariant-loop-e
invariant-loop-e l =
    end_of l.line l.at ≡ end_of l.line l.e
