-- The record is stored only where the call is accepted; a refused call answers with the record that it got.
use Rattle.station.proofs.Stored.{sent}
use Rattle.station.proofs.vanitycrow_data_burst.Goals as goal

pub returns : goal.returns
returns c =
    sent c.args.p.now c.args.t.now c.args.a.now c.args.out.now
    c.data_burst-q.result c.data_burst-q.new.a c.data_burst-q.new.out c.data_burst-q.ensures
    c.after_burst-l.result c.after_burst-l.ensures
    c.keep.result c.keep.new.t c.keep.ensures
    c.made.result c.made.ensures
