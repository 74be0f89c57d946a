-- `text::puts`: what is left to put.
use lib.ListN.{drop}
use Rattle.text.specs.Buffer.{appended}
use Rattle.text.proofs.Laws.{Left}
use Rattle.text.proofs.puts.Given as goal

abbrev pub invariant-loop-c : goal.invariant-loop-c
invariant-loop-c l =
    Left (appended (l.initial.n, l.initial.t) l.s) (drop l.c-index l.s) (l.n, l.t)
