use Rattle.std.proofs.Common.{◌≡◌, take}
use Rattle.laws.specs.Bytes.{overwrite}
use Rattle.words.specs.Words.{pair_bytes}
use Rattle.words.proofs.meaning.put_pairs.Given as goal

abbrev pub invariant-loop-k : goal.invariant-loop-k
invariant-loop-k l =
    l.bytes ≡ overwrite l.initial.bytes 0 (take l.k (pair_bytes l.w))
