-- What goes to `from_bits` is no NaN's pattern, and the rest are NaN's. Assumes nothing.
use lib.Ieee.{binary32, of_bits}
use Rattle.float_bits.proofs.Bits.{no-digits, below-ones, all_ones}
use Rattle.float_bits.proofs.F32Pattern.of_bits.Goals as goal

pub float_from_bits-result : goal.float_from_bits-result
float_from_bits-result c = no-digits binary32 _ c.if-n-eq0.true

pub returns-then-n-eq255 : goal.returns-then-n-eq255
unfolding of_bits
returns-then-n-eq255 c = all_ones binary32 _ c.if-n-eq255.true c.if-n-eq0.false

pub float_from_bits-result-2 : goal.float_from_bits-result-2
float_from_bits-result-2 c = below-ones binary32 _ c.if-n-eq255.false
