-- frame.rs: AckInfo (document 01, module 5). Definitions only.
use Rattle.std.specs.Prelude.{false, cond, List, ℕ, Option, Some, None, ◌%◌, ltb, leb, get_or, length}
use Rattle.std.specs.Option.{unwrap_or}
use Rattle.std.specs.Float.{nan, binary32}
use Rattle.std.specs.Float.Ieee.{of_bits}
use Rattle.laws.specs.Bytes.{part}
use Rattle.laws.specs.Little.{num}
use Rattle.report.specs.Report.{snr_from_q, report_at}
use Rattle.report.specs.declared.ChanReport.{ChanReport}
use Rattle.report.specs.declared.ack.AckInfo.{AckInfo}

-- what stands where a long ack has no report: no class, slot 0, spreads that are not numbers (what `unwrap_or_default`, `map_or` give in sender.rs)
abbrev pub no_report : ChanReport
no_report = record { class = record { echo = false; doppler = false }; eff_snr_db = of_bits binary32 0; delay_ms = nan; doppler_hz = nan; slot = 0 }

-- all but the report, from the first 13 bytes
abbrev pub ack_with : List ℕ → Option ChanReport → AckInfo
ack_with b report =
    record {
      burst = get_or b 0 0 % 4;
      bitmap = num (part b 1 8);
      snr_db = snr_from_q (get_or b 9 0);
      delivered = num (part b 10 3);
      report = report;
    }

-- the report needs bytes 13 to 16
abbrev pub info_of : List ℕ → AckInfo
info_of b = ack_with b (cond (leb 17 (length b)) (Some (report_at b 13)) None)

-- AckInfo::from_bytes: none under 13 bytes
unfoldable pub ack_of : List ℕ → Option AckInfo
ack_of b = cond (ltb (length b) 13) None (Some (info_of b))

-- the report of a long ack, or what stands where there is none
abbrev pub report_of : AckInfo → ChanReport
report_of i = unwrap_or i.report no_report
