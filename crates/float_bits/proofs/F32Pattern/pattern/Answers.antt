-- What has a pattern is no NaN. Assumes nothing.
use mathlib.Core.Path.{refl}
use Rattle.ieee.proofs.Value.{ne-self}
use Rattle.float_bits.proofs.F32Pattern.pattern.Goals as goal

pub returns-then-is_nan : goal.returns-then-is_nan
returns-then-is_nan c = rw (ne-self c.args.self, ← c.is_nan.ensures.value, c.if-is_nan.true) refl

pub returns : goal.returns
returns c = rw (ne-self c.args.self, ← c.is_nan.ensures.value, c.if-is_nan.false) refl
