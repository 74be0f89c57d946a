use lib.Ieee.{of_bits}
use Rattle.gear.specs.BurstLength.{next_entry}
use Rattle.laws.proofs.Span.{fold-turn, fold_done}
use Rattle.std.proofs.Common.{sym, refl, arith}
use Rattle.gear.proofs.burst_length.next_entry.Goals as goal

pub loop-k-init : goal.loop-k-init
unfolding next_entry of_bits
loop-k-init c = (refl, refl)

pub loop-k-preserved : goal.loop-k-preserved
loop-k-preserved c = (fold-turn _ _ _ _ _ _ c.loop-k.invariant.0 (omega arith) (rw c.entry.ensures at c.min-least.ensures), c.loop-k.invariant.1)

pub returns : goal.returns
returns c = sym (fold_done _ _ _ _ _ c.loop-k.invariant.0 (omega arith))
