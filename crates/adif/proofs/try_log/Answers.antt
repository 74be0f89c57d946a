-- `adif::try_log` meets its contract. Assumes nothing.
use mathlib.Core.Path.{sym}
use Rattle.std.proofs.lemmas.Result.{err_from_is_err_and}
use Rattle.adif.proofs.Refusals.{accepted, log-refused, log-made}
use Rattle.adif.proofs.try_log.Goals as goal

pub returns-in_err-check : goal.returns-in_err-check
returns-in_err-check c =
    let p = err_from_is_err_and c.from_residual.result c.from_residual.ensures.1 in
    rw (p.1, p.2) (log-refused _ _ _ _ _ _ c.in_err-check.ensures)

pub put_record-requires : goal.put_record-requires
put_record-requires c =
    let a = accepted _ _ _ _ (sym c.in_ok-check.ensures) in
    (a.short, a.fits)

pub returns : goal.returns
returns c = log-made _ _ _ _ _ c.in_ok-check.ensures _ _ c.put_record.ensures
