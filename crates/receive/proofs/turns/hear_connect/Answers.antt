-- `receive::turns::hear_connect` meets its contract.
use Rattle.receive.proofs.turns.Turned.{connect-is}
use Rattle.receive.proofs.turns.hear_connect.Goals as goal

pub returns : goal.returns
returns c = connect-is _ _ _ _ _ c.connect-g.ensures
