-- `receive::acks::long_db` meets its contract.
use mathlib.Core.Path.{refl}
use Rattle.laws.proofs.Picks.{picks}
use Rattle.receive.proofs.acks.long_db.Goals as goal

pub returns-in-Some : goal.returns-in-Some
returns-in-Some c = rw c.in-Some.is (search picks)

pub returns-in_default : goal.returns-in_default
returns-in_default c = rw c.in-Some.is (search picks)

pub returns-in_default-2 : goal.returns-in_default-2
returns-in_default-2 c = rw c.in_default.is refl
