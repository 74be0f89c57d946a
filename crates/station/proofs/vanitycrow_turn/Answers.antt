-- The record is stored only where the call is accepted; a refused call leaves the record that it got.
use Rattle.station.proofs.Stored.{kept-left}
use Rattle.station.proofs.vanitycrow_turn.Goals as goal

pub returns : goal.returns
returns c = kept-left _ _ _ _ c.keep_sender.ensures c.turn-q.ensures
