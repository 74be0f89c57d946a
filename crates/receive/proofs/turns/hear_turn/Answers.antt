-- `receive::turns::hear_turn` meets its contract.
use Rattle.receive.proofs.turns.Turned.{turn_is}
use Rattle.receive.proofs.turns.hear_turn.Goals as goal

pub returns : goal.returns
returns c =
    turn_is _ _ _ _ _ _ _ _ c.outcome-o.ensures c.turn_db.ensures c.on_turn-g.ensures c.clear_burst.ensures
