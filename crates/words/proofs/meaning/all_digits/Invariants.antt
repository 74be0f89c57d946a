use Rattle.std.proofs.Common.{◌≡◌, drop}
use Rattle.words.specs.Words.{digits}
use Rattle.words.proofs.meaning.all_digits.Given as goal

abbrev pub invariant-loop-c : goal.invariant-loop-c
invariant-loop-c l =
    digits l.w ≡ digits (drop l.c-index l.w)
