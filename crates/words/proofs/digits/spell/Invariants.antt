use Rattle.std.proofs.Common.{◌≡◌, drop}
use Rattle.words.specs.Words.{spelled}
use Rattle.words.proofs.digits.spell.Given as goal

abbrev pub invariant-loop-c : goal.invariant-loop-c
invariant-loop-c l =
    spelled l.base 0 l.w ≡ spelled l.base l.n (drop l.c-index l.w)
