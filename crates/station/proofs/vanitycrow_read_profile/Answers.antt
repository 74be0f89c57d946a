-- The profile is stored only where its file is accepted; otherwise it is the one that was there.
use Rattle.station.proofs.Stored.{read-in}
use Rattle.station.proofs.vanitycrow_read_profile.Goals as goal

pub returns : goal.returns
returns c =
    read-in c.args.file.now c.args.p.now c.read-q.result c.read-q.ensures
    c.keep_profile.result c.keep_profile.new.p c.keep_profile.ensures
