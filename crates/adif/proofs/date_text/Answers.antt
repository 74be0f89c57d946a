-- `adif::date_text` meets its contract. Assumes nothing.
use mathlib.Core.Path.{refl}
use Rattle.adif.proofs.Steps.{date-made}
use Rattle.adif.proofs.date_text.Goals as goal

pub returns : goal.returns
returns c = let p = c in
    let q = p in
    let r = q in
    let s = r in
    date-made _ _ _ _ _ _ refl s.date_of-d.ensures r.put_digits.ensures q.put_digits-2.ensures p.put_digits-3.ensures
