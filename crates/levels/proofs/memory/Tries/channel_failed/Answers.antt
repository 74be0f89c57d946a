use Rattle.laws.proofs.Span.{fold-turn, fold_done}
use Rattle.std.proofs.Common.{sym, refl, arith}
use Rattle.levels.specs.Memory.{channel_failed}
use Rattle.levels.proofs.memory.Tries.channel_failed.Goals as goal

pub loop-k-init : goal.loop-k-init
unfolding channel_failed
loop-k-init c = (refl, omega arith)

pub loop-k-preserved : goal.loop-k-preserved
loop-k-preserved c = (fold-turn _ _ _ _ _ _ c.loop-k.invariant.0 (omega arith) c.mark-t.ensures, omega arith)

pub returns : goal.returns
returns c = sym (fold_done _ _ _ _ _ c.loop-k.invariant.0 (omega arith))
