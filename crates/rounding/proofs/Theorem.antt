-- The claim of specs/Claim: the kit's binary32 and binary64 round by the standard's rule, in every operation and conversion that the
-- sender uses.
-- Assumes nothing.
use lib.Ieee.{Format, binary32, binary64, prec, emax}
use Rattle.rounding.specs.Claim.{Arithmetic, Binary32, Binary64, Conversions}
use Rattle.rounding.proofs.Rule.{rounded, determined}
use Rattle.rounding.proofs.Formats
use Rattle.rounding.proofs.Operations.{add-rounded, sub-rounded, mul-rounded, div-rounded}
use Rattle.rounding.proofs.Operations.{whole-rounded, minus-rounded, narrow-rounded, wide-rounded}
use Rattle.rounding.proofs.Cut.{cut-rounded}

arithmetic : (f : Format) → Arithmetic (prec f) (emax f) f
arithmetic f =
    record {
      rounds = rounded f;
      alone = determined f;
      held = Formats.held f;
      holds = Formats.holds f;
      sums = add-rounded f;
      differences = sub-rounded f;
      products = mul-rounded f;
      quotients = div-rounded f;
      wholes = whole-rounded f;
      minuses = minus-rounded f;
    }

pub in-binary32 : Binary32
in-binary32 = arithmetic binary32

pub in-binary64 : Binary64
in-binary64 = arithmetic binary64

pub in-conversions : Conversions
in-conversions = record { narrowed = narrow-rounded; widened = wide-rounded; cut = cut-rounded }
