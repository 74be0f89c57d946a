-- `text::hexadecimal` calls itself at k - 1, so its measure is k.
use Rattle.text.proofs.+hexadecimal.Given as goal

abbrev pub decreases-hexadecimal : goal.decreases-hexadecimal
decreases-hexadecimal l = l.k
