use Rattle.outgoing.specs.Choosing.{chosen}
use Rattle.outgoing.proofs.choosing.choose.Goals as goal

pub returns : goal.returns
unfolding chosen
returns c =
    let q = c in
    let o = q in
    let w = o in
    let f = w in
    let m = f in
    simp (c.most_bits.ensures, q.cue_s.ensures, o.slot.ensures, w.wave_rank.ensures, f.long_frame.ensures, m.burst_len_s-max_s.ensures, m.cue_for-cue.ensures)
