-- `meaning::put_pairs`: the first pairs are stored. Assumes nothing.
use Rattle.std.proofs.Common.{arith, sym, ap, ◌∙◌}
use Rattle.words.specs.Words.{pair_bytes}
use Rattle.words.proofs.Laws.{bytes-length, pairs-turn}
use Rattle.laws.specs.Bytes.{overwrite}
use Rattle.laws.proofs.Bytes.{over-nil}
use lib.Seq.{take_all}
use Rattle.words.proofs.meaning.put_pairs.Goals as goal

pub loop-k-init : goal.loop-k-init
loop-k-init c = sym (over-nil _ 0)

pub bounds-bytes-k : goal.bounds-bytes-k
bounds-bytes-k c = omega (arith, bytes-length c.args.w.now, c.requires, c.loop-k.auto.bytes)

pub loop-k-preserved : goal.loop-k-preserved
loop-k-preserved c = pairs-turn c.args.bytes.now c.args.w.now _ c.loop-k.k _ (omega arith) c.byte.ensures c.loop-k.invariant

pub returns : goal.returns
returns c = c.loop-k.invariant ∙ ap (overwrite _ 0) (take_all c.loop-k.k (pair_bytes c.args.w.now) (omega (arith, bytes-length c.args.w.now)))
