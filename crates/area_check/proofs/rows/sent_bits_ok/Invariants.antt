use Rattle.std.specs.Iterator.Adapters.{zip_first, zip_second}
use Rattle.std.specs.Slice.Iter.{iter_rest}
use Rattle.area_check.specs.Rows.{sent_bits_ok}
use mathlib.Core.Path.{◌≡◌}
use Rattle.area_check.proofs.rows.sent_bits_ok.Given as goal

abbrev pub invariant-loop-b : goal.invariant-loop-b
invariant-loop-b l =
    sent_bits_ok l.bits l.held ≡ sent_bits_ok (iter_rest (zip_first l.b-iterator)) (iter_rest (zip_second l.b-iterator))
