use Prim.Native.Nat.{◌-◌}
use mathlib.Core.Path.{refl}
use native.Mathlib.Omega.{arith}
use Rattle.outgoing.proofs.Laws.{slots_small}
use Rattle.outgoing.proofs.burst_bits.Goals as goal

pub overflow_mul-result : goal.overflow_mul-result
overflow_mul-result c = let s = c in omega (arith, slots_small (s.args.frames - s.args.pl.parity) s.args.slot (omega arith) s.requires.0)

pub overflow_add-result : goal.overflow_add-result
overflow_add-result c = let s = c in omega (arith, slots_small (s.args.frames - s.args.pl.parity) s.args.slot (omega arith) s.requires.0)

pub returns : goal.returns
returns c = refl
