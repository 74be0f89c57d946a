-- `text::pairs`: what is left to put.
use lib.ListN.{drop}
use Rattle.text.specs.Digits.{pair}
use Rattle.text.specs.Buffer.{appended, each}
use Rattle.text.proofs.Laws.{Left}
use Rattle.text.proofs.pairs.Given as goal

abbrev pub invariant-loop-b : goal.invariant-loop-b
invariant-loop-b l =
    Left (appended (l.initial.n, l.initial.t) (each pair l.a)) (each pair (drop l.b-index l.a)) (l.n, l.t)
