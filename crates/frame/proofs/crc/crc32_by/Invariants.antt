use mathlib.Core.Path.{◌≡◌}
use Prim.Native.Nat.{◌*◌}
use lib.ListN.{drop}
use Rattle.frame.specs.Crc.{feed_bytes}
use Rattle.frame.proofs.crc.crc32_by.Given as goal

abbrev pub invariant-loop-i : goal.invariant-loop-i
invariant-loop-i l = feed_bytes 4294967295 l.bytes ≡ feed_bytes l.c (drop (8 * l.i) l.bytes)
