-- What goes to `from_bits` is no NaN's pattern, and the rest are NaN's. Assumes nothing.
use lib.Ieee.{binary64, of_bits}
use Rattle.float_bits.proofs.Bits.{no-digits, below-ones, all_ones}
use Rattle.float_bits.proofs.F64Pattern.of_bits.Goals as goal

pub float_from_bits-result : goal.float_from_bits-result
float_from_bits-result c = no-digits binary64 _ c.if-n-eq0.true

pub returns-then-n-eq2047 : goal.returns-then-n-eq2047
unfolding of_bits
returns-then-n-eq2047 c = all_ones binary64 _ c.if-n-eq2047.true c.if-n-eq0.false

pub float_from_bits-result-2 : goal.float_from_bits-result-2
float_from_bits-result-2 c = below-ones binary64 _ c.if-n-eq2047.false
