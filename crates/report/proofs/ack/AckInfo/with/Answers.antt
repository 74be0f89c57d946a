-- `AckInfo::with` meets its contract: field by field.
use mathlib.Core.Path.{ap, ◌∙◌}
use Prim.Native.Nat.{◌/◌, ◌%◌, ℕ}
use native.Mathlib.Omega.{arith}
use lib.ListN.{get_or}
use Rattle.report.proofs.ack.Laws.{upper}
use Rattle.report.proofs.ack.AckInfo.with.Goals as goal

pub returns : goal.returns
returns c =
    let q = c in
    let m = q in
    let s = m in
    λ i. record {
      burst = get_or s.args.b.now 0 0 % 4;
      bitmap = m.load.ensures i;
      snr_db = q.snr_from_q.ensures i;
      delivered = (ap (λ (x : ℕ). x / 256) c.load-2.ensures ∙ upper s.args.b.now 9 (λ k. omega (arith, c.type_inv.b k)) s.requires) i;
      report = s.args.report;
    }
