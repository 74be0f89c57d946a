-- `ChanReport::at` meets its contract: field by field.
use Rattle.report.specs.Report.{report_at}
use Rattle.report.proofs.ChanReport.at.Goals as goal

pub returns : goal.returns
unfolding report_at
returns c =
    let s2 = c in
    let s1 = s2 in
    let q = s1 in
    let k = q in
    λ i. record {
      class = k.from_bits.ensures i;
      eff_snr_db = q.snr_from_q.ensures i;
      delay_ms = s1.spread.ensures i;
      doppler_hz = s2.spread-2.ensures i;
      slot = c.slot.ensures i;
    }
