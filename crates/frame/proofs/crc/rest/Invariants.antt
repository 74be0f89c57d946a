use mathlib.Core.Path.{◌≡◌}
use lib.ListN.{drop}
use Rattle.frame.specs.Crc.{feed_bytes}
use Rattle.frame.proofs.crc.rest.Given as goal

abbrev pub invariant-loop-b : goal.invariant-loop-b
invariant-loop-b l = feed_bytes l.start l.bytes ≡ feed_bytes l.c (drop l.b-index l.bytes)
